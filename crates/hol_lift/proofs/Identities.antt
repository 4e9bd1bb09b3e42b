-- Equations of a term with itself, and their negations.
use Rattle.std.proofs.Common.{◌≡◌, IsTrue, false, sym, ap, subst, ◌∙◌}
use Rattle.hol_terms.specs.declared.konst.Konst.TheVariants as konst
use Rattle.hol_terms.specs.declared.sig.Sig.{Sig}
use Rattle.hol_terms.specs.declared.term.Term.{Term}
use Rattle.hol_terms.specs.Formulas.{IsFormula}
use Rattle.kernel_rules.specs.Connectives.{apply, constant, equal, head_ty, is_equal, left_of, right_of}
use Rattle.kernel_rules.proofs.Parts.{equal_is, is_equal-equal, left_of-two, right_of-apply}
use Rattle.kernel_rules.proofs.TypedTerms.{equal_sides, equal_aux_free}
use Rattle.hol_kernel.specs.Conditions.{own_ty, IsGiven}
use Rattle.hol_derived.proofs.Expansions.{own_is, own_given}
use Rattle.hol_terms.specs.declared.literal.TypedLiteral.{TypedLiteral}
use Rattle.hol_lift.specs.inner.Typed.{IsIdentity, IsRefuted}

pub identity_from : (t s u : Term) → IsTrue (is_equal t) → s ≡ left_of t → u ≡ right_of t → s ≡ u → IsIdentity t
identity_from t s u h left right same = record { ty = head_ty t; term = left_of t; is = equal_is t h ∙ ap (equal (head_ty t) (left_of t)) (sym right ∙ sym same ∙ left) }

pub identity_equal : (t : Term) → IsIdentity t → IsTrue (is_equal t)
identity_equal t h = ap is_equal h.is ∙ is_equal-equal h.ty h.term h.term

pub identity_sides : (t s u : Term) → s ≡ left_of t → u ≡ right_of t → IsIdentity t → s ≡ u
identity_sides t s u left right h =
    left ∙ ap left_of h.is ∙ left_of-two (constant (konst.Eq h.ty)) h.term h.term ∙ sym (right ∙ ap right_of h.is ∙ right_of-apply (apply (constant (konst.Eq h.ty)) h.term) h.term)

pub refuted_identity : (l : TypedLiteral) → IsRefuted l → IsIdentity l.atom
refuted_identity l h = record { ty = h.ty; term = h.term; is = ap (λ m. m.atom) h.is }

pub refuted_negative : (l : TypedLiteral) → IsRefuted l → l.positive ≡ false
refuted_negative l h = ap (λ m. m.positive) h.is

pub refuted_from : (l : TypedLiteral) → l.positive ≡ false → IsIdentity l.atom → IsRefuted l
refuted_from l h k = record { ty = k.ty; term = k.term; is = λ i. record { positive = h i; atom = k.is i } }

-- the side is given to rule 19, which gives the atom
module _ (sig : Sig) (a side : Term) (formula : IsFormula sig a) (h : IsIdentity a) (is : side ≡ left_of a) where
  side_is : side ≡ h.term
  side_is = is ∙ ap left_of h.is ∙ left_of-two (constant (konst.Eq h.ty)) h.term h.term

  parts : IsFormula sig (equal h.ty h.term h.term)
  parts = subst (IsFormula sig) h.is formula

  pub side_given : IsGiven sig side (own_ty sig side)
  side_given = subst (λ t. IsGiven sig t (own_ty sig t)) (sym side_is) (own_given sig h.term h.ty (equal_sides sig h.ty h.term h.term parts).1.0 (equal_aux_free sig h.ty h.term h.term parts).0)

  pub side_equal : equal (own_ty sig side) side side ≡ a
  side_equal = ap (λ t. equal (own_ty sig t) t t) side_is ∙ ap (λ b. equal b h.term h.term) (own_is sig h.term h.ty (equal_sides sig h.ty h.term h.term parts).1.0) ∙ sym h.is
