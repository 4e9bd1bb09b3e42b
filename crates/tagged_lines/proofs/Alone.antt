-- Inputs, factoring and reflexivity.
use Rattle.std.proofs.Common.{◌≡◌, ℕ, false, List, [], ◌∷◌, sym, ap, subst, ◌∙◌, Some, slice_get}
use Rattle.std.specs.List.{remove}
use Rattle.hol_terms.specs.Types.{bool_ty}
use Rattle.fo_terms.specs.declared.term.FoTerm.{FoTerm}
use Rattle.fo_terms.specs.declared.atom.Atom.{Atom}
use Rattle.fo_terms.specs.declared.atom.Atom.TheVariants.{Holds, Eq}
use Rattle.fo_terms.specs.declared.literal.Literal.{Literal}
use Rattle.fo_terms.specs.declared.clause.Clause.{Clause}
use Rattle.fo_terms.specs.Substitution.{put, put_atom, put_literal, put_literals}
use Rattle.fo_terms.specs.Normal.{normal_of}
use Rattle.fo_unify.specs.declared.subst.Bind.{Bind}
use Rattle.fo_unify.specs.Lookup.{term_of}
use Rattle.fo_unify.specs.Unifier.{Unifies, IsMostGeneral}
use Rattle.fo_unify.specs.Unified.{Unified}
use Rattle.fo_infer.specs.Inferences.{atom_equations, Factors}
use Rattle.tagged_terms.specs.Readings.{Signs, Types}
use Rattle.tagged_terms.specs.Terms.{term_at, tag_of}
use Rattle.tagged_terms.specs.Clauses.{formula_of, literal_of, literals_of, IsAtom, IsClause}
use Rattle.tagged_terms.specs.Fits.{AreClosed, Fits, both_tagged, AllPaired}
use Rattle.tagged_terms.proofs.Solving.{solved_fits}
use Rattle.tagged_lines.specs.TypedLiterals.{Lasts}
use Rattle.tagged_lines.specs.Variables.{lasting_variables, final_types, final, finished}
use Rattle.tagged_lines.specs.Rules.{FactorsTo}
use Rattle.tagged_lines.specs.Lifted.{InputsLift, factored, FactoringLifts, ReflexivityLifts}
use Rattle.tagged_lines.proofs.Items.{map_get, each_get}
use Rattle.tagged_lines.proofs.Apart.{own_given, final_of}
use Rattle.tagged_lines.proofs.Instances.{as_each, clause_remove}
use Rattle.tagged_lines.proofs.Finishing.{final_fits, all_last, normal_clause}
use Rattle.tagged_lines.proofs.Concluding.{instance_of, new_types, finished_fits, concluded, lasting, concludes, finished_same, one_removed}

pub inputs_lift : (p : List Literal) → InputsLift p
inputs_lift p signs types closed h =
    record {
      types = final_types (lasting_variables p) types;
      of = λ sig of. final_of sig (lasting_variables p) types of;
      tagged = normal_clause signs types p closed h;
      parent = instance_of signs types types (final_types (lasting_variables p) types) (final p) p closed h (own_given p types) (final_fits signs types p);
      rule = all_last signs p;
    }

-- ---- atoms that are made the same

atoms_paired : (signs : Signs) (types : Types) (a b : Atom) (es : List (FoTerm × FoTerm)) → atom_equations a b ≡ Some es → IsAtom signs types a → IsAtom signs types b → AllPaired signs types es
atoms_paired signs types (Holds s) (Holds t) es is h k =
    let e : (s, t) ∷ [] ≡ es = cc in
    subst (AllPaired signs types) e (both_tagged bool_ty bool_ty (term_at signs s bool_ty) (term_at signs t bool_ty) h k, tt)
atoms_paired signs types (Holds s) (Eq c d) es is h k = absurd (cc)
atoms_paired signs types (Eq a b) (Holds t) es is h k = absurd (cc)
atoms_paired signs types (Eq a b) (Eq c d) es is h k =
    let e : (a, c) ∷ (b, d) ∷ [] ≡ es = cc in
    subst (AllPaired signs types) e (
      both_tagged (tag_of signs a) (tag_of signs c) (term_at signs a bool_ty) (term_at signs c bool_ty) h.0 k.0,
      (both_tagged (tag_of signs a) (tag_of signs c) (term_at signs b bool_ty) (term_at signs d bool_ty) h.1 k.1, tt),
    )

atoms_same : (binds : List Bind) (ls : List Literal) (a b : Atom) (es : List (FoTerm × FoTerm)) → atom_equations a b ≡ Some es → Unifies (term_of binds) es → put_atom (finished binds ls) a ≡ put_atom (finished binds ls) b
atoms_same binds ls (Holds s) (Holds t) es is h =
    let e : es ≡ (s, t) ∷ [] = cc in
    ap Holds (finished_same binds ls s t (subst (Unifies (term_of binds)) e h).0)
atoms_same binds ls (Holds s) (Eq c d) es is h = absurd (cc)
atoms_same binds ls (Eq a b) (Holds t) es is h = absurd (cc)
atoms_same binds ls (Eq a b) (Eq c d) es is h =
    let e : es ≡ (a, c) ∷ (b, d) ∷ [] = cc in
    let both = subst (Unifies (term_of binds)) e h in
    λ i. Eq (finished_same binds ls a c both.0 i) (finished_same binds ls b d both.1.0 i)

module _ (p : Clause) (i j : ℕ) (c : Clause) (signs : Signs) (types : Types) (binds : List Bind) (closed : AreClosed signs) (h : IsClause signs types p.literals) (rule : Factors p i j c)
    (general : IsMostGeneral rule.equations binds) (run : Unified rule.equations binds) where
  abbrev ls : List Literal
  ls = remove p.literals j

  abbrev u : ℕ → FoTerm
  u = finished binds (factored p binds j)

  atom_at : (k : ℕ) (l : Literal) → slice_get p.literals k ≡ Some l → IsAtom signs types l.atom
  atom_at k l is = each_get (λ m. IsAtom signs types m.atom) p.literals k l (as_each signs types p.literals h) is

  fits : Fits signs types types (term_of binds)
  fits = solved_fits signs types closed rule.equations binds run (atoms_paired signs types rule.first.atom rule.second.atom rule.equations rule.kinds (atom_at i rule.first rule.first_is) (atom_at j rule.second rule.second_is))

  is : c.literals ≡ normal_of (factored p binds j)
  is = concludes rule.equations rule.binds binds c ls rule.unifier general rule.gives

  made_same : put_literal u rule.second ≡ put_literal u rule.first
  made_same = λ k. record { positive = sym rule.signs k; atom = sym (atoms_same binds (factored p binds j) rule.first.atom rule.second.atom rule.equations rule.kinds general.unifies) k }

  factors : FactorsTo i j (literals_of signs (put_literals u p.literals)) (literals_of signs c.literals)
  factors =
      record {
        literal = literal_of signs (put_literal u rule.first);
        first = map_get (literal_of signs) (put_literals u p.literals) i (put_literal u rule.first) (map_get (put_literal u) p.literals i rule.first rule.first_is);
        second = map_get (literal_of signs) (put_literals u p.literals) j (put_literal u rule.second) (map_get (put_literal u) p.literals j rule.second rule.second_is) ∙ ap (λ l. Some (literal_of signs l)) made_same;
        lasts = subst (λ old. Lasts old (literals_of signs c.literals)) (one_removed signs u p.literals j) (lasting signs types closed binds fits ls (clause_remove signs types p.literals j h) c.literals is);
      }

pub factoring_lifts : (p : Clause) (i j : ℕ) (c : Clause) → FactoringLifts p i j c
factoring_lifts p i j c signs types binds closed h rule general run =
    let ls = remove p.literals j in
    let rest = clause_remove signs types p.literals j h in
    let good = fits p i j c signs types binds closed h rule general run in
    record {
      types = new_types signs types closed binds good ls rest;
      of = λ sig of. final_of sig (lasting_variables (put_literals (term_of binds) ls)) types of;
      tagged = concluded signs types closed binds good ls rest c.literals (is p i j c signs types binds closed h rule general run);
      parent = instance_of signs types types (new_types signs types closed binds good ls rest) (finished binds (factored p binds j)) p.literals closed h (own_given p.literals types) (finished_fits signs types closed binds good ls rest);
      rule = factors p i j c signs types binds closed h rule general run;
    }

pub reflexivity_lifts : (p : Clause) (i : ℕ) (c : Clause) → ReflexivityLifts p i c
reflexivity_lifts p i c signs types binds closed h rule general run =
    let ls = remove p.literals i in
    let rest = clause_remove signs types p.literals i h in
    let u = finished binds (factored p binds i) in
    let s = rule.s in
    let t = rule.t in
    let l : Literal = record { positive = false; atom = Eq s t } in
    let at = each_get (λ m. IsAtom signs types m.atom) p.literals i l (as_each signs types p.literals h) rule.literal_is in
    let good = solved_fits signs types closed ((s, t) ∷ []) binds run (both_tagged (tag_of signs s) (tag_of signs s) (term_at signs s bool_ty) (term_at signs t bool_ty) at.0 at.1, tt) in
    let whole = concludes ((s, t) ∷ []) rule.binds binds c ls rule.unifier general rule.gives in
    let same = finished_same binds (factored p binds i) s t general.unifies.0 in
    record {
      types = new_types signs types closed binds good ls rest;
      of = λ sig of. final_of sig (lasting_variables (put_literals (term_of binds) ls)) types of;
      tagged = concluded signs types closed binds good ls rest c.literals whole;
      parent = instance_of signs types types (new_types signs types closed binds good ls rest) u p.literals closed h (own_given p.literals types) (finished_fits signs types closed binds good ls rest);
      rule = record {
        ty = tag_of signs (put u s);
        term = term_at signs (put u s) bool_ty;
        literal = map_get (literal_of signs) (put_literals u p.literals) i (put_literal u l) (map_get (put_literal u) p.literals i l rule.literal_is)
            ∙ (λ k. Some (record { positive = false; atom = formula_of signs (Eq (put u s) (sym same k)) }));
        lasts = subst (λ old. Lasts old (literals_of signs c.literals)) (one_removed signs u p.literals i) (lasting signs types closed binds good ls rest c.literals whole);
      };
    }
