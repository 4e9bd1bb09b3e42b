-- Lines with one parent.
use Rattle.std.proofs.Common.{◌≡◌, ℕ, ◌+◌, List, [], ◌∷◌, map, Some, slice_get, refl, sym, ap, subst, ◌∙◌, inl, inr, arith, false}
use Rattle.std.specs.Prelude.{Result, IfOk}
use Rattle.std.specs.List.{remove}
use Rattle.hol_terms.specs.declared.sig.Sig.{Sig}
use Rattle.fo_terms.specs.declared.term.FoTerm.{FoTerm}
use Rattle.fo_terms.specs.declared.atom.Atom.TheVariants.{Eq}
use Rattle.fo_terms.specs.declared.literal.Literal.{Literal}
use Rattle.fo_terms.specs.declared.clause.Clause.{Clause}
use Rattle.fo_terms.specs.Substitution.{put, put_literals}
use Rattle.fo_terms.specs.Normal.{normal_of}
use Rattle.fo_terms.proofs.Substitution.{put_var}
use Rattle.fo_unify.specs.declared.subst.Bind.{Bind}
use Rattle.fo_unify.specs.Lookup.{term_of}
use Rattle.fo_infer.specs.Inferences.{atom_equations, Factors, Reflects}
use Rattle.tagged_terms.specs.Readings.{Signs, Types}
use Rattle.tagged_terms.specs.Clauses as tagged
use Rattle.tagged_terms.specs.Fits.{AreOf}
use Rattle.tagged_lines.specs.TypedLiterals as lines
use Rattle.tagged_lines.specs.Variables.{own, lasting_variables, final, finished}
use Rattle.tagged_lines.specs.Formulas.{AreFormulas}
use Rattle.tagged_lines.specs.Lifted.{FollowsTyped, factored}
use Rattle.tagged_lines.specs.Rules.{KeepsAll, FactorsTo, ReflectsTo}
use Rattle.tagged_lines.proofs.Items.{in_map, map_remove}
use Rattle.tagged_lines.proofs.Instances.{clause_kept}
use Rattle.tagged_lines.proofs.AreFormulas.{are_formulas}
use Rattle.tagged_lines.proofs.OwnTypes.{own_types_serve}
use Rattle.tagged_lines.proofs.Alone.{inputs_lift, factoring_lifts, reflexivity_lifts}
use Rattle.hyp_sets.proofs.Members.{among_trans}
use Rattle.kernel_rules.specs.declared.step.ThmId.{ThmId}
use Rattle.hol_kernel.specs.Logs.{Logged, thm}
use Rattle.hol_terms.specs.declared.literal.TypedLiteral.{TypedLiteral}
use Rattle.hol_clauses.specs.Literals.{allowed}
use Rattle.clause_instances.specs.Images.{named, image}
use Rattle.clause_instances.specs.Theorems.{as_literal, clause_of, Lands, HasInstance}
use Rattle.clause_instances.proofs.Answered.{if_ok_map}
use Rattle.hol_lift.specs.inner.Typed.{AllFormulas, IsRefuted, Last, Drops}
use Rattle.hol_lift.specs.Refutations.{IsTaggedClause, AreSignsOver}
use Rattle.hol_lift.specs.inner.Unifying.{IsUnifier, AtomsUnify, SidesUnify}
use Rattle.hol_lift.proofs.Members as members
use Rattle.hol_lift.proofs.Joins.{last_allowed}

-- ---- typed literals, as theorems have them

refuted_as : (t : tagged.TypedLiteral) → lines.IsRefuted t → IsRefuted (as_literal t)
refuted_as t r = record { ty = r.ty; term = r.term; is = ap as_literal r.is }

pub last_of : (ts cs : List tagged.TypedLiteral) → lines.Lasts ts cs → Last (map as_literal ts) (map as_literal cs)
last_of [] cs h l k = absurd k
last_of (t ∷ ts) cs h l (inl e) =
    elim h.0 [ inl n ↦ inl (subst (lines.IsIn (map as_literal cs)) e (in_map as_literal cs t n)) | inr r ↦ inr (subst IsRefuted e (refuted_as t r)) ]
last_of (t ∷ ts) cs h l (inr k) = last_of ts cs h.1 l k

formulas_as : (sig : Sig) (ts : List tagged.TypedLiteral) → AreFormulas sig ts → AllFormulas sig (map as_literal ts)
formulas_as sig [] h = tt
formulas_as sig (t ∷ ts) h = (h.0, formulas_as sig ts h.1)

-- what an instance stands for are formulas
pub instance_formulas : (sig : Sig) (signs : Signs) (u : ℕ → FoTerm) (ls : List Literal) → AreSignsOver sig signs → HasInstance sig signs u ls → AllFormulas sig (clause_of signs (put_literals u ls))
instance_formulas sig signs u ls serve p =
    let own_is = (own_types_serve ls signs p.old p.tagged).0 in
    formulas_as sig (tagged.literals_of signs (put_literals u ls))
    (are_formulas (put_literals u ls) sig signs p.new serve.has_bool serve.serve.typed p.of (clause_kept signs (own ls p.old) p.new u serve.serve.closed p.instance.fits ls own_is))

-- ---- an instance without what never holds

pub instance_lands : (old one new : Logged) (th at r : ℕ) (p q c : List TypedLiteral) → Lands old one th p at q → Drops one new q at r → Last q c → Lands old new th p r c
instance_lands old one new th at r p q c l d last = record {
  is_thm = d.is_thm;
  concl = d.concl ∙ l.concl;
  lifts = λ base free h. last_allowed base q c (thm new r).hyps (among_trans (thm new r).hyps (thm one at).hyps (allowed base q) d.among (l.lifts base free h)) d.gone last;
}

pub instances_land : {E : Type 0} (old one new : Logged) (th at : ℕ) (p q own : List TypedLiteral) (r : Result ThmId E) → own ≡ q → Lands old one th p at q → IfOk r (λ s. Drops one new own at s.0)
    → IfOk r (λ s. (c : List TypedLiteral) → Last q c → Lands old new th p s.0 c)
instances_land old one new th at p q own r is l h =
    if_ok_map r (λ s. Drops one new own at s.0) (λ s. (c : List TypedLiteral) → Last q c → Lands old new th p s.0 c)
    (λ s d c last. instance_lands old one new th at s.0 p q c l (subst (λ z. Drops one new z at s.0) is d) last) h

-- ---- images

pub image_final : (ls : List Literal) → image 0 [] (lasting_variables ls) ≡ final ls
image_final ls = λ i x. at x i
  where
    at : (x : ℕ) → image 0 [] (lasting_variables ls) x ≡ final ls x
    at x = put_var (named (lasting_variables ls)) (x + 0) ∙ ap (λ y. named (lasting_variables ls) y) (omega arith)

pub image_finished : (binds : List Bind) (ls : List Literal) → image 0 binds (lasting_variables ls) ≡ finished binds ls
image_finished binds ls = λ i x. at x i
  where
    at : (x : ℕ) → image 0 binds (lasting_variables ls) x ≡ finished binds ls x
    at x = ap (λ y. put (final ls) (term_of binds y)) (omega arith)

-- ---- what the rules of tagged lines say

module _ (sig : Sig) (signs : Signs) (serve : AreSignsOver sig signs) (ls : List Literal) where
  -- types of the signature that the clause is tagged for
  pub types_of : IsTaggedClause signs ls → Types
  types_of t = own ls t.0

  pub tagged_so : (t : IsTaggedClause signs ls) → tagged.IsClause signs (types_of t) ls
  unfolding types_of
  tagged_so t = (own_types_serve ls signs t.0 t.1).0

  pub of_so : (t : IsTaggedClause signs ls) → AreOf sig (types_of t)
  unfolding types_of
  of_so t = (own_types_serve ls signs t.0 t.1).1 sig serve.serve.typed

  pub follows_instance : (t : IsTaggedClause signs ls) (c : List Literal) (u : ℕ → FoTerm) (Rule : List tagged.TypedLiteral → List tagged.TypedLiteral → Type 0) → FollowsTyped signs (types_of t) ls c u Rule → HasInstance sig signs u ls
  follows_instance t c u Rule f = record { old = types_of t; new = f.types; of = f.of sig (of_so t); tagged = tagged_so t; instance = f.parent }

module _ (sig : Sig) (signs : Signs) (serve : AreSignsOver sig signs) (p : Clause) (t : IsTaggedClause signs p.literals) where
  abbrev T : Types
  T = types_of sig signs serve p.literals t

  input_follows : FollowsTyped signs T p.literals (normal_of p.literals) (final p.literals) KeepsAll
  input_follows = inputs_lift p.literals signs T serve.serve.closed (tagged_so sig signs serve p.literals t)

  pub input_instance : HasInstance sig signs (final p.literals) p.literals
  input_instance = follows_instance sig signs serve p.literals t (normal_of p.literals) (final p.literals) KeepsAll input_follows

  pub input_last : Last (clause_of signs (put_literals (final p.literals) p.literals)) (clause_of signs (normal_of p.literals))
  input_last = last_of (tagged.literals_of signs (put_literals (final p.literals) p.literals)) (tagged.literals_of signs (normal_of p.literals)) input_follows.rule

  pub input_tagged : IsTaggedClause signs (normal_of p.literals)
  input_tagged = (input_follows.types, input_follows.tagged)

  -- factoring: of the two literals, which became one, the first stays
  module _ (i j : ℕ) (c : Clause) (binds : List Bind) (rule : Factors p i j c) (unifier : IsUnifier rule.equations binds) where
    abbrev u : ℕ → FoTerm
    u = finished binds (factored p binds j)

    factor_follows : FollowsTyped signs T p.literals c.literals u (FactorsTo i j)
    factor_follows = factoring_lifts p i j c signs T binds serve.serve.closed (tagged_so sig signs serve p.literals t) rule unifier.general unifier.made

    pub factor_instance : HasInstance sig signs u p.literals
    factor_instance = follows_instance sig signs serve p.literals t c.literals u (FactorsTo i j) factor_follows

    pub factor_tagged : IsTaggedClause signs c.literals
    factor_tagged = (factor_follows.types, factor_follows.tagged)

    pub factor_last : Last (clause_of signs (put_literals u p.literals)) (clause_of signs c.literals)
    factor_last =
        let f = factor_follows.rule in
        let ps = tagged.literals_of signs (put_literals u p.literals) in
        let rest = last_of (remove ps j) (tagged.literals_of signs c.literals) f.lasts in
        λ l k. rest l (subst (λ zs. lines.IsIn zs l) (sym (map_remove as_literal ps j))
        (members.in_other (map as_literal ps) i j (as_literal f.literal) l rule.before (members.map_got as_literal ps i f.literal f.first) (members.map_got as_literal ps j f.literal f.second) k))

  module _ (i : ℕ) (c : Clause) (binds : List Bind) (rule : Reflects p i c) (unifier : IsUnifier ((rule.s, rule.t) ∷ []) binds) where
    abbrev w : ℕ → FoTerm
    w = finished binds (factored p binds i)

    reflex_follows : FollowsTyped signs T p.literals c.literals w (ReflectsTo i)
    reflex_follows = reflexivity_lifts p i c signs T binds serve.serve.closed (tagged_so sig signs serve p.literals t) rule unifier.general unifier.made

    pub reflex_instance : HasInstance sig signs w p.literals
    reflex_instance = follows_instance sig signs serve p.literals t c.literals w (ReflectsTo i) reflex_follows

    pub reflex_tagged : IsTaggedClause signs c.literals
    reflex_tagged = (reflex_follows.types, reflex_follows.tagged)

    pub reflex_last : Last (clause_of signs (put_literals w p.literals)) (clause_of signs c.literals)
    reflex_last =
        let f = reflex_follows.rule in
        let ps = tagged.literals_of signs (put_literals w p.literals) in
        let rest = last_of (remove ps i) (tagged.literals_of signs c.literals) f.lasts in
        let l' : tagged.TypedLiteral = record { positive = false; atom = tagged.equation f.ty f.term f.term } in
        λ l k. elim (members.in_taken (map as_literal ps) i (as_literal l') l (members.map_got as_literal ps i l' f.literal) k) [
          | inl e ↦ inr (subst IsRefuted e (record { ty = f.ty; term = f.term; is = refl }))
          | inr m ↦ rest l (subst (λ zs. lines.IsIn zs l) (sym (map_remove as_literal ps i)) m)
        ]

-- ---- that the unifiers exist

module _ (p : Clause) (i j : ℕ) (c : Clause) (rule : Factors p i j c) (a b : Literal) (first : slice_get p.literals i ≡ Some a) (second : slice_get p.literals j ≡ Some b) where
  same_got : (x y : Literal) → Some x ≡ Some y → x ≡ y
  same_got x y e = cc

  pub factors_unify : AtomsUnify a.atom b.atom
  factors_unify = record {
    equations = rule.equations;
    kinds = (λ k. atom_equations ((same_got a rule.first (sym first ∙ rule.first_is) k).atom) ((same_got b rule.second (sym second ∙ rule.second_is) k).atom)) ∙ rule.kinds;
    unifier = (term_of rule.binds, rule.unifier.unifies);
  }

  pub factors_kinds : atom_equations a.atom b.atom ≡ Some rule.equations
  unfolding factors_unify
  factors_kinds = factors_unify.kinds

pub reflects_unify : (p : Clause) (i : ℕ) (c : Clause) (rule : Reflects p i c) (a : Literal) → slice_get p.literals i ≡ Some a → SidesUnify a.atom
reflects_unify p i c rule a got = record { s = rule.s; t = rule.t; is = ap (λ l. l.atom) (same_got a _ (sym got ∙ rule.literal_is)); unifier = (term_of rule.binds, rule.unifier.unifies) }
  where
    same_got : (x y : Literal) → Some x ≡ Some y → x ≡ y
    same_got x y e = cc

pub reflects_sides : (p : Clause) (i : ℕ) (c : Clause) (rule : Reflects p i c) (a : Literal) → slice_get p.literals i ≡ Some a → a.atom ≡ Eq rule.s rule.t
unfolding reflects_unify
reflects_sides p i c rule a got = (reflects_unify p i c rule a got).is
