-- Models, and how many values a type has in one.
use Rattle.std.specs.Prelude.{◌≡◌, ℕ, ◌^◌, ◌<◌, length, slice_get, Option, Some, None}
use Rattle.hol_terms.specs.declared.ty.Ty.{Ty}
use Rattle.hol_terms.specs.declared.ty.Ty.TheOpen.{Ty-F}
use Rattle.hol_terms.specs.declared.ty.Ty.TheFolds.{fold-Ty}
use Rattle.hol_terms.specs.declared.sig.Sig.{Sig}
use Rattle.model_truth.specs.declared.model.Model.{Model}

-- what is listed at a place, and `x` where nothing is
abbrev pub or_else : ℕ → Option ℕ → ℕ
or_else x None = x
or_else x (Some n) = n

-- a base type that isn't the model's has one value
abbrev pub base_size : Model → ℕ → ℕ
base_size m a = or_else 1 (slice_get m.sizes a)

abbrev pub size_step : Model → Ty-F ℕ → ℕ
size_step m (Ty-F.Base a) = base_size m a
size_step m (Ty-F.Arrow a b) = b ^ a

-- the number of values of a type, which are the numbers below it
abbrev pub size : Model → Ty → ℕ
size m = fold-Ty ℕ (size_step m)

-- the value of a named constant
abbrev pub const_value : Model → ℕ → ℕ
const_value m k = or_else 0 (slice_get m.consts k)

-- a model of a signature: two truth values, at least one value of each base type, and for each constant a value
-- of its type
pub record IsModel (sig : Sig) (m : Model) : Type 0 where
  pub types : length m.sizes ≡ sig.types
  pub bools : slice_get m.sizes 0 ≡ Some 2
  pub inhabited : (a n : ℕ) → slice_get m.sizes a ≡ Some n → 0 < n
  pub named : length m.consts ≡ length sig.consts
  pub typed : (k n : ℕ) (a : Ty) → slice_get m.consts k ≡ Some n → slice_get sig.consts k ≡ Some a → n < size m a
