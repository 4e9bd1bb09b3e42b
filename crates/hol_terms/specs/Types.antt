-- Types, and the tests on them.
use Rattle.std.specs.Prelude.{ℕ, Bool, false, ◌&&◌, ◌==◌, nat_lt}
use Rattle.hol_terms.specs.declared.ty.Ty.{Ty, roll-Ty, out-Ty}
use Rattle.hol_terms.specs.declared.ty.Ty.TheOpen.{Ty-F}
use Rattle.hol_terms.specs.declared.ty.Ty.TheFolds.{fold-Ty}

-- the type of truth values
abbrev pub bool_ty : Ty
bool_ty = roll-Ty (Ty-F.Base 0)

-- the functions from `a` to `b`
abbrev pub function_ty : Ty → Ty → Ty
function_ty a b = roll-Ty (Ty-F.Arrow a b)

-- the same type, as a test: equal numbers at base types, equal parts at function types
abbrev pub is_base : ℕ → Ty-F Ty → Bool
is_base a (Ty-F.Base b) = a == b
is_base a (Ty-F.Arrow c d) = false

abbrev pub is_function : (Ty → Bool) → (Ty → Bool) → Ty-F Ty → Bool
is_function f g (Ty-F.Base b) = false
is_function f g (Ty-F.Arrow c d) = f c && g d

abbrev pub is_ty_step : Ty-F (Ty → Bool) → Ty → Bool
is_ty_step (Ty-F.Base a) t = is_base a (out-Ty t)
is_ty_step (Ty-F.Arrow f g) t = is_function f g (out-Ty t)

abbrev pub is_ty : Ty → Ty → Bool
is_ty = fold-Ty (Ty → Bool) is_ty_step

-- every base type in it is below `types`
abbrev pub ty_fits_step : ℕ → Ty-F Bool → Bool
ty_fits_step types (Ty-F.Base a) = nat_lt a types
ty_fits_step types (Ty-F.Arrow a b) = a && b

abbrev pub ty_fits : ℕ → Ty → Bool
ty_fits types = fold-Ty Bool (ty_fits_step types)
