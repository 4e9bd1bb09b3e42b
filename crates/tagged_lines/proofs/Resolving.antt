-- Resolution.
use Rattle.std.proofs.Common.{◌≡◌, ℕ, true, false, [], ◌∷◌, ◌++◌, sym, subst, ◌∙◌, Some, slice_get}
use Rattle.std.specs.List.{remove}
use Rattle.hol_terms.specs.Types.{bool_ty}
use Rattle.fo_terms.specs.declared.atom.Atom.TheVariants.{Holds}
use Rattle.fo_terms.specs.declared.literal.Literal.{Literal}
use Rattle.fo_terms.specs.declared.clause.Clause.{Clause}
use Rattle.fo_terms.specs.Substitution.{put, put_literal, put_literals}
use Rattle.fo_terms.specs.Normal.{clause_variables}
use Rattle.fo_infer.specs.Inferences.{above_all, renamed_apart}
use Rattle.tagged_terms.specs.Terms.{term_at}
use Rattle.tagged_terms.specs.Clauses.{literal_of, literals_of, IsAtom}
use Rattle.tagged_terms.specs.Fits.{both_tagged}
use Rattle.tagged_terms.proofs.Solving.{solved_fits}
use Rattle.tagged_lines.specs.TypedLiterals.{Lasts}
use Rattle.tagged_lines.specs.Variables.{lasting_variables, finished}
use Rattle.tagged_lines.specs.Lifted.{resolved, ResolutionLifts}
use Rattle.tagged_lines.proofs.Items.{map_get, each_get}
use Rattle.tagged_lines.proofs.Apart.{left_clause, beside_of, final_of}
use Rattle.tagged_lines.proofs.Instances.{as_each, clause_remove, clause_append}
use Rattle.tagged_lines.proofs.Concluding.{new_types, finished_fits, concluded, lasting, concludes, finished_same, both_removed}
use Rattle.tagged_lines.proofs.Beside.{both_types, right_clause, left_instance, right_instance, right_at_once}

pub resolution_lifts : (p q : Clause) (i j : ℕ) (c : Clause) → ResolutionLifts p q i j c
resolution_lifts p q i j c signs left right binds closed h k rule general run =
    let types = both_types p left right in
    let apart = renamed_apart p q in
    let ls = remove p.literals i ++ remove apart j in
    let hp = left_clause signs p left right h in
    let hq = right_clause signs p q left right closed k in
    let rest = clause_append signs types (remove p.literals i) (remove apart j) (clause_remove signs types p.literals i hp) (clause_remove signs types apart j hq) in
    let before = resolved p q binds i j in
    let u = finished binds before in
    let s = rule.s in
    let t = rule.t in
    let l : Literal = record { positive = true; atom = Holds s } in
    let m : Literal = record { positive = false; atom = Holds t } in
    let at_left = each_get (λ n. IsAtom signs types n.atom) p.literals i l (as_each signs types p.literals hp) rule.left_is in
    let at_right = each_get (λ n. IsAtom signs types n.atom) apart j m (as_each signs types apart hq) rule.right_is in
    let good = solved_fits signs types closed ((s, t) ∷ []) binds run (both_tagged bool_ty bool_ty (term_at signs s bool_ty) (term_at signs t bool_ty) at_left at_right, tt) in
    let whole = concludes ((s, t) ∷ []) rule.binds binds c ls rule.unifier general rule.gives in
    let same = finished_same binds before s t general.unifies.0 in
    let fits = finished_fits signs types closed binds good ls rest in
    let once = right_at_once p q binds before in
    record {
      types = new_types signs types closed binds good ls rest;
      of = λ sig of_left of_right. final_of sig (lasting_variables before) types (beside_of sig (above_all (clause_variables p.literals)) left right of_left of_right);
      tagged = concluded signs types closed binds good ls rest c.literals whole;
      left_parent = left_instance signs p left right (new_types signs types closed binds good ls rest) u closed h fits;
      right_parent = right_instance signs p q left right (new_types signs types closed binds good ls rest) binds before closed k fits;
      rule = record {
        atom = term_at signs (put u s) bool_ty;
        left = map_get (literal_of signs) (put_literals u p.literals) i (put_literal u l) (map_get (put_literal u) p.literals i l rule.left_is);
        right = subst (λ qs. slice_get (literals_of signs qs) j ≡ Some (record { positive = false; atom = term_at signs (put u s) bool_ty })) once
            (map_get (literal_of signs) (put_literals u apart) j (put_literal u m) (map_get (put_literal u) apart j m rule.right_is) ∙ (λ z. Some (record { positive = false; atom = term_at signs (sym same z) bool_ty })));
        lasts = subst (λ qs. Lasts (remove (literals_of signs (put_literals u p.literals)) i ++ remove (literals_of signs qs) j) (literals_of signs c.literals)) once
            (subst (λ old. Lasts old (literals_of signs c.literals)) (both_removed signs u p.literals apart i j) (lasting signs types closed binds good ls rest c.literals whole));
      };
    }
