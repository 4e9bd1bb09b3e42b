-- Answers on one clause.
use Rattle.std.proofs.Common.{◌≡◌, ℕ, ◌<◌, Bool, true, false, List, [], ◌∷◌, Option, Some, None, slice_get, refl, sym, ap, subst, ◌∙◌}
use Rattle.fo_terms.specs.declared.term.FoTerm.{FoTerm}
use Rattle.fo_terms.specs.declared.atom.Atom.{Atom}
use Rattle.fo_terms.specs.declared.atom.Atom.TheVariants.{Eq}
use Rattle.fo_terms.specs.declared.literal.Literal.{Literal}
use Rattle.fo_terms.specs.declared.clause.Clause.{Clause}
use Rattle.fo_unify.specs.declared.subst.Bind.{Bind}
use Rattle.fo_unify.specs.Lookup.{term_of}
use Rattle.fo_unify.specs.Unifier.{Unifies}
use Rattle.fo_unify.specs.Unified.{MetBy}
use mathlib.Core.Bool.{beq, not}
use Rattle.fo_infer.specs.declared.made.Rule.TheVariants.{Factor, Reflex}
use Rattle.fo_infer.specs.Inferences.{atom_equations, Factors, Reflects}
use Rattle.fo_infer.specs.inner.Adding.{Answered, AtomsUnifierOf}
use Rattle.fo_infer.specs.inner.Findings.{given_by}
use Rattle.fo_infer.proofs.Resolvents.{some_same}

pub atoms_answer : (a b : Atom) (es : List (FoTerm × FoTerm)) (o : Option (List Bind)) → atom_equations a b ≡ Some es → MetBy es o → AtomsUnifierOf a b o
atoms_answer a b es (Some u) is h = (es, is, h.0)
atoms_answer a b es None is h = λ fs other v u. h v (subst (Unifies v) (some_same fs es (sym other ∙ is)) u)

-- an equation of this sign
abbrev pub equating : Bool → FoTerm → FoTerm → Literal
equating positive s t = record { positive = positive; atom = Eq s t }

pub sides_same : (positive : Bool) (a b s t : FoTerm) → Some (equating positive a b) ≡ Some (equating positive s t) → (a ≡ s) × (b ≡ t)
sides_same positive a b s t e = let same : Eq a b ≡ Eq s t = ap (λ l. l.atom) (some_same (equating positive a b) (equating positive s t) e) in (cc, cc)

module _ (p : Clause) where
  pub no_equation : (i : ℕ) (l : Literal) → slice_get p.literals i ≡ Some l → ((s t : FoTerm) → l ≡ record { positive = false; atom = Eq s t } → ⊥) → (c : Clause) → Reflects p i c → ⊥
  no_equation i l is none c made = none made.s made.t (some_same l (equating false made.s made.t) (sym is ∙ made.literal_is))

  pub no_reflection : (i : ℕ) (s t : FoTerm) → slice_get p.literals i ≡ Some (record { positive = false; atom = Eq s t })
      → ((v : ℕ → FoTerm) → Unifies v ((s, t) ∷ []) → ⊥) → (c : Clause) → Reflects p i c → ⊥
  no_reflection i s t is none c made =
      let same = sides_same false made.s made.t s t (sym made.literal_is ∙ is) in
      none (term_of made.binds) (subst (λ e. Unifies (term_of made.binds) (e ∷ [])) (λ k. (same.0 k, same.1 k)) made.unifier.unifies)

pub signs_same : (a b : Bool) → not (beq a b) ≡ false → a ≡ b
signs_same true true e = refl
signs_same true false e = cc
signs_same false true e = cc
signs_same false false e = refl

pub factor_answer : (p : Clause) (i j : ℕ) (first second : Literal) → slice_get p.literals i ≡ Some first → slice_get p.literals j ≡ Some second → i < j → not (beq first.positive second.positive) ≡ false
    → (o : Option (List Bind)) → AtomsUnifierOf first.atom second.atom o → Answered (Factors p i j) (given_by p [] (Factor i j) o)
factor_answer p i j first second is it before signs (Some binds) made = record {
  first = first;
  second = second;
  first_is = is;
  second_is = it;
  before = before;
  signs = signs_same first.positive second.positive signs;
  equations = made.0;
  kinds = made.1;
  binds = binds;
  unifier = made.2;
  gives = refl;
}
factor_answer p i j first second is it before signs None none = λ c made.
    let one = some_same made.first first (sym made.first_is ∙ is) in
    let two = some_same made.second second (sym made.second_is ∙ it) in
    none made.equations (sym (λ k. atom_equations (one k).atom (two k).atom) ∙ made.kinds) (term_of made.binds) made.unifier.unifies

pub reflect_answer : (p : Clause) (i : ℕ) (s t : FoTerm) → slice_get p.literals i ≡ Some (record { positive = false; atom = Eq s t }) → (o : Option (List Bind)) → MetBy ((s, t) ∷ []) o
    → Answered (Reflects p i) (given_by p [] (Reflex i) o)
reflect_answer p i s t is None none = no_reflection p i s t is none
reflect_answer p i s t is (Some binds) met = record { s = s; t = t; literal_is = is; binds = binds; unifier = met.0; gives = refl }
