-- A chosen value, and the equation that names it.
use Rattle.std.proofs.Common.{◌≡◌, ℕ, IsTrue, sym, ◌∙◌, ap, Some}
use Rattle.std.specs.FinSet as set
use Rattle.hol_terms.specs.declared.ty.Ty.{Ty}
use Rattle.hol_terms.specs.declared.sig.Sig.{Sig}
use Rattle.hol_terms.specs.declared.konst.Konst.TheVariants as konst
use Rattle.hol_terms.specs.declared.term.Term.{Term}
use Rattle.hol_terms.specs.Types.{bool_ty, function_ty, ty_fits}
use Rattle.hol_terms.specs.Typing.{type_of_term}
use Rattle.hol_terms.specs.Formulas.{IsFormula, aux_free}
use Rattle.kernel_rules.specs.Connectives.{constant, apply, equal, some, chosen, is_equal, left_of, right_of, head_ty}
use Rattle.kernel_rules.specs.Rules.{seq}
use Rattle.kernel_rules.proofs.Parts.{right_of-apply, left_of-two, head_ty-two, is_equal-equal}
use Rattle.kernel_rules.proofs.TypedTerms.{some_property, chosen_typed, chosen_aux_free}
use Rattle.hol_kernel.specs.Logs.{Logged, IsThm, thm}
use Rattle.hol_kernel.specs.Growth.{Extends}
use Rattle.hol_kernel.specs.Conditions.{own_ty, IsGiven}
use Rattle.hol_derived.proofs.Expansions.{own_is, own_given}

module _ (log : Logged) (name : ℕ) (a : Ty) (c : Term) (names : thm log name ≡ seq set.empty (equal a c (right_of (thm log name).concl))) where
  pub name_equal : IsTrue (is_equal (thm log name).concl)
  name_equal = ap (λ q. is_equal q.concl) names ∙ is_equal-equal a c (right_of (thm log name).concl)

  pub name_ty : head_ty (thm log name).concl ≡ a
  name_ty = ap (λ q. head_ty q.concl) names ∙ head_ty-two (konst.Eq a) c (right_of (thm log name).concl)

  pub name_left : left_of (thm log name).concl ≡ c
  name_left = ap (λ q. left_of q.concl) names ∙ left_of-two (constant (konst.Eq a)) c (right_of (thm log name).concl)

-- it stays where the log grows
pub names_stay : (old new : Logged) (name : ℕ) (a : Ty) (c : Term) → Extends old new → IsThm old name → thm old name ≡ seq set.empty (equal a c (right_of (thm old name).concl)) →
    thm new name ≡ seq set.empty (equal a c (right_of (thm new name).concl))
names_stay old new name a c kept is names = let same = kept.earlier name is in same ∙ names ∙ (λ i. seq set.empty (equal a c (right_of ((sym same i).concl))))

-- an equation names by its right side
module _ (log : Logged) (name : ℕ) (a : Ty) (c d : Term) (is : thm log name ≡ seq set.empty (equal a c d)) where
  pub name_right : right_of (thm log name).concl ≡ d
  name_right = ap (λ q. right_of q.concl) is ∙ right_of-apply (apply (constant (konst.Eq a)) c) d

  pub named_by : thm log name ≡ seq set.empty (equal a c (right_of (thm log name).concl))
  named_by = is ∙ (λ i. seq set.empty (equal a c (sym name_right i)))

-- ---- the chosen value
module _ (sig : Sig) (a : Ty) (f : Term) (whole : IsFormula sig (some a f)) where
  parts : IsTrue (ty_fits sig.types a) × ((type_of_term sig f ≡ Some (function_ty a bool_ty)) × IsTrue (aux_free f))
  parts = some_property sig a f whole

  pub chosen_has_type : type_of_term sig (chosen a f) ≡ Some a
  chosen_has_type = chosen_typed sig a f parts.0 parts.1.0

  pub chosen_own : own_ty sig (chosen a f) ≡ a
  chosen_own = own_is sig (chosen a f) a chosen_has_type

  pub chosen_given : IsGiven sig (chosen a f) (own_ty sig (chosen a f))
  chosen_given = own_given sig (chosen a f) a chosen_has_type (chosen_aux_free sig a f parts.1.1)
