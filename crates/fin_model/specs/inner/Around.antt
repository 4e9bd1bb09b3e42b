-- The lists that a chain of binders stands for.
use Rattle.std.specs.Prelude.{◌≡◌, ℕ, List, [], ◌∷◌, slice_get, Option, Some, None}
use Rattle.std.specs.Borrow.{Bor}
use Rattle.hol_terms.specs.declared.ty.Ty.{Ty}
use Rattle.fin_model.specs.declared.around.Around.{Around}
use Rattle.fin_model.specs.declared.around.Around.TheOpen.{Around-F}
use Rattle.fin_model.specs.declared.around.Around.TheFolds.{fold-Around}

abbrev pub type_step : Around-F (List Ty) → List Ty
type_step Around-F.Outside = []
type_step (Around-F.Under a value rest) = a.now ∷ rest.now

abbrev pub value_step : Around-F (List ℕ) → List ℕ
value_step Around-F.Outside = []
value_step (Around-F.Under a value rest) = value ∷ rest.now

-- the types of the binders, the innermost first
abbrev pub types_of : Around → List Ty
types_of = fold-Around (List Ty) type_step

-- the values of their variables
abbrev pub values_of : Around → List ℕ
values_of = fold-Around (List ℕ) value_step

-- what stands at a place in both lists
abbrev pub IsNth : List Ty → List ℕ → ℕ → Option (Bor Ty × ℕ) → Type 0
IsNth types values i None = slice_get types i ≡ None
IsNth types values i (Some e) = (slice_get types i ≡ Some (e.0).now) × (slice_get values i ≡ Some e.1)
