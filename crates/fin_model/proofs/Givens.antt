-- The value of a term whose variables have values of their types.
use Rattle.std.proofs.Common.{◌≡◌, ℕ, ◌<◌, Bool, true, false, if◌then◌else◌, nat_lt, refl, sym, ap, subst, List, Some}
use Rattle.std.proofs.lemmas.Bool.{ltb-true, lt-ltb}
use Rattle.hol_terms.specs.declared.ty.Ty.{Ty}
use Rattle.hol_terms.specs.declared.sig.Sig.{Sig}
use Rattle.hol_terms.specs.declared.term.Term.{Term}
use Rattle.hol_terms.specs.Typing.{type_in}
use Rattle.model_truth.specs.declared.model.Model.{Model}
use Rattle.model_truth.specs.Sizes.{size, IsModel}
use Rattle.model_truth.specs.Values.{Valuation, value_in}
use Rattle.model_truth.specs.Truth.{InRange, AllWithin}
use Rattle.model_truth.proofs.Sizing.{size_positive}
use Rattle.model_truth.proofs.Ranges.{value_below}
use Rattle.model_truth.proofs.Substituting.{value_depends}
use Rattle.fin_model.specs.Given.{IsGiven}

-- the valuation with 0 where a value is none of its type
abbrev clipped : Model → Valuation → Valuation
clipped m v n a = if nat_lt (v n a) (size m a) then v n a else 0

module _ (sig : Sig) (m : Model) (is : IsModel sig m) (v : Valuation) where
  clipped_in_range : InRange m (clipped m v)
  clipped_in_range n a = chosen (nat_lt (v n a) (size m a)) refl
    where
      chosen : (b : Bool) → nat_lt (v n a) (size m a) ≡ b → (if b then v n a else 0) < size m a
      chosen true e = ltb-true (v n a) (size m a) e
      chosen false e = size_positive sig m is a

  pub given_below : (t : Term) (types : List Ty) (values : List ℕ) (a : Ty) → IsGiven m v t → AllWithin m types values → type_in sig t types ≡ Some a → value_in sig m v t types values < size m a
  given_below t types values a given all h =
      subst (λ z. z < size m a) (sym (value_depends sig m v (clipped m v) t types values (λ n b k. sym (ap (λ c. if c then v n b else 0) (lt-ltb (v n b) (size m b) (given n b k))))))
      (value_below sig m is (clipped m v) clipped_in_range t types values a all h)
