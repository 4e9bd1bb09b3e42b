-- What the private table of function types keeps.
use Rattle.std.specs.Prelude.{◌≡◌, ℕ, List, map, position, slice_get, Option, Some, None}
use Rattle.std.specs.declared.cmp.Ordering.{Ordering}
use Rattle.std.specs.Ordering.{is_eq, nat_cmp, ordering_then}
use Rattle.hol_terms.specs.declared.ty.Ty.{Ty}
use Rattle.hol_terms.specs.Types.{function_ty}
use Rattle.theory_terms.specs.Numbers.{type_at}

-- the functions between two types, where both are there
abbrev pub function_of : Option Ty → Option Ty → Option Ty
function_of None b = None
function_of (Some a) None = None
function_of (Some a) (Some b) = Some (function_ty a b)

-- each type of the table goes between the types of its sides' numbers
abbrev pub AreFunctions : List Ty → List (ℕ × ℕ) → Type 0
AreFunctions table sides = map (λ a. Some a) table ≡ map (λ s. function_of (type_at table s.0) (type_at table s.1)) sides

abbrev pub compared : ℕ × ℕ → ℕ × ℕ → Ordering
compared s t = ordering_then (nat_cmp s.0 t.0) (nat_cmp s.1 t.1)

-- no two entries have the same sides
abbrev pub AreApart : List (ℕ × ℕ) → Type 0
AreApart sides = (i : ℕ) (s : ℕ × ℕ) → slice_get sides i ≡ Some s → position (λ k. is_eq (compared s k)) sides ≡ Some i
