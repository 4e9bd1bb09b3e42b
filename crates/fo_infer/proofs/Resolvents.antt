-- Where two literals don't resolve.
use Rattle.std.proofs.Common.{◌≡◌, ℕ, Bool, true, false, List, [], ◌∷◌, ◌++◌, Option, Some, None, slice_get, sym, ap, subst, ◌∙◌}
use Rattle.fo_terms.specs.declared.term.FoTerm.{FoTerm}
use Rattle.fo_terms.specs.declared.atom.Atom.TheVariants.{Holds}
use Rattle.fo_terms.specs.declared.literal.Literal.{Literal}
use Rattle.fo_terms.specs.declared.clause.Clause.{Clause}
use Rattle.fo_unify.specs.declared.subst.Bind.{Bind}
use Rattle.fo_unify.specs.Lookup.{term_of}
use Rattle.fo_unify.specs.Unified.{MetBy}
use Rattle.fo_unify.specs.Unifier.{Unifies}
use Rattle.std.specs.List.{remove}
use Rattle.fo_order.specs.Eligible.{IsEligible}
use Rattle.fo_infer.specs.declared.made.Rule.TheVariants.{Resolve}
use Rattle.fo_infer.specs.Inferences.{renamed_apart, conclusion, Resolves}
use Rattle.fo_infer.specs.inner.Adding.{Answered}
use Rattle.fo_infer.specs.inner.Findings.{given_by}

pub some_same : {X : Type 0} (x y : X) → Some x ≡ Some y → x ≡ y
some_same x y e = cc

-- a literal that says of a term that it holds
abbrev saying : Bool → FoTerm → Literal
saying positive t = record { positive = positive; atom = Holds t }

pub held_same : (positive : Bool) (s t : FoTerm) → Some (saying positive s) ≡ Some (saying positive t) → s ≡ t
held_same positive s t e = let same : Holds s ≡ Holds t = ap (λ l. l.atom) (some_same (saying positive s) (saying positive t) e) in cc

module _ (p q : Clause) (i j : ℕ) where
  pub no_right : (l : Literal) → slice_get (renamed_apart p q) j ≡ Some l → ((t : FoTerm) → l ≡ record { positive = false; atom = Holds t } → ⊥) → (c : Clause) → Resolves p q i j c → ⊥
  no_right l is none c made = none made.t (some_same l (record { positive = false; atom = Holds made.t }) (sym is ∙ made.right_is))

  pub no_left : (l : Literal) → slice_get p.literals i ≡ Some l → ((t : FoTerm) → l ≡ record { positive = true; atom = Holds t } → ⊥) → (c : Clause) → Resolves p q i j c → ⊥
  no_left l is none c made = none made.s (some_same l (record { positive = true; atom = Holds made.s }) (sym is ∙ made.left_is))

  pub no_unifier : (s t : FoTerm) → slice_get p.literals i ≡ Some (record { positive = true; atom = Holds s }) → slice_get (renamed_apart p q) j ≡ Some (record { positive = false; atom = Holds t })
      → ((v : ℕ → FoTerm) → Unifies v ((s, t) ∷ []) → ⊥) → (c : Clause) → Resolves p q i j c → ⊥
  no_unifier s t left right none c made =
      let first : made.s ≡ s = held_same true made.s s (sym made.left_is ∙ left) in
      let second : made.t ≡ t = held_same false made.t t (sym made.right_is ∙ right) in
      none (term_of made.binds) (subst (λ e. Unifies (term_of made.binds) (e ∷ [])) (λ k. (first k, second k)) made.unifier.unifies)

-- what the unifier gives, or that there is none
pub resolve_answer : (p q : Clause) (apart : List Literal) (i j : ℕ) (s t : FoTerm) → apart ≡ renamed_apart p q
    → slice_get p.literals i ≡ Some (record { positive = true; atom = Holds s }) → slice_get (renamed_apart p q) j ≡ Some (record { positive = false; atom = Holds t })
    → IsEligible p i → IsEligible q j → (o : Option (List Bind)) → MetBy ((s, t) ∷ []) o → Answered (Resolves p q i j) (given_by p apart (Resolve i j) o)
resolve_answer p q apart i j s t is left right left_eligible right_eligible None met = no_unifier p q i j s t left right met
resolve_answer p q apart i j s t is left right left_eligible right_eligible (Some binds) met = record {
  s = s;
  t = t;
  left_is = left;
  right_is = right;
  left_eligible = left_eligible;
  right_eligible = right_eligible;
  binds = binds;
  unifier = met.0;
  gives = ap (λ ls. conclusion binds (remove p.literals i ++ remove ls j)) is;
}
