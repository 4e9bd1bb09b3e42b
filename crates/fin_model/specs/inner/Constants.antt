-- What a logical constant gives for its arguments.
use Rattle.std.specs.Prelude.{◌≡◌, ◌≤◌, ℕ, Bool, true, false, ◌&&◌, ◌||◌, ◌==◌, Option, Some, None}
use Rattle.hol_terms.specs.declared.ty.Ty.{Ty}
use Rattle.hol_terms.specs.declared.konst.Konst.{Konst}
use Rattle.hol_terms.specs.declared.konst.Konst.TheVariants as konst
use Rattle.hol_terms.specs.declared.sig.Sig.{Sig}
use Rattle.hol_terms.specs.Types.{bool_ty}
use Rattle.hol_terms.specs.Typing.{konst_type}
use Rattle.model_truth.specs.declared.model.Model.{Model}
use Rattle.model_truth.specs.Numbers.{every_below, some_below, least_below}
use Rattle.model_truth.specs.Sizes.{size}
use Rattle.model_truth.specs.Values.{truth, implies, negation, holds_at}
use Rattle.fin_model.specs.Fitting.{greatest_size}

-- of two arguments
abbrev pub two_of : Konst → ℕ → ℕ → ℕ
two_of konst.And x y = truth (x == 1 && y == 1)
two_of konst.Or x y = truth (x == 1 || y == 1)
two_of konst.Imp x y = truth (implies (x == 1) (y == 1))
two_of (konst.Eq a) x y = truth (x == y)
two_of _ x y = 0

-- the type of both
abbrev pub side_ty : Konst → Ty
side_ty (konst.Eq a) = a
side_ty _ = bool_ty

-- of a property of the numbers below `n`
abbrev pub test_of : Konst → ℕ → (ℕ → Bool) → ℕ
test_of (konst.All a) n p = truth (every_below n p)
test_of (konst.Ex a) n p = truth (some_below n p)
test_of (konst.Eps a) n p = least_below n p
test_of _ n p = 0

-- the type of the bound variable
abbrev pub bound_ty : Konst → Ty
bound_ty (konst.All a) = a
bound_ty (konst.Ex a) = a
bound_ty (konst.Eps a) = a
bound_ty _ = bool_ty

-- the type of what a quantifier or `Eps` gives
abbrev pub result_ty : Konst → Ty → Ty
result_ty (konst.Eps b) a = a
result_ty _ a = bool_ty

-- of one argument
abbrev pub one_of : Model → Konst → ℕ → ℕ
one_of m konst.Not x = truth (negation (x == 1))
one_of m k x = test_of k (size m (bound_ty k)) (holds_at m x)

-- what is sought among the values: for 'every' a value without the property, else one with it
abbrev pub sought : Konst → Bool
sought (konst.All a) = false
sought _ = true

-- what is told of what was found
abbrev pub told : Konst → Option ℕ → ℕ
told (konst.All a) None = 1
told (konst.All a) (Some v) = 0
told (konst.Ex a) None = 0
told (konst.Ex a) (Some v) = 1
told (konst.Eps a) None = 0
told (konst.Eps a) (Some v) = v
told _ o = 0

-- the constant has a type, and the type is small
abbrev pub IsBare : Sig → Model → Konst → Type 0
IsBare sig m k = (a : Ty) × ((konst_type sig k ≡ Some a) × (size m a ≤ greatest_size))
