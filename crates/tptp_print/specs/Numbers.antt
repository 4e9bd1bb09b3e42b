-- Types that have numbers: a list of types, each once.
use Rattle.std.specs.Prelude.{ℕ, if◌then◌else◌, List, [], ◌∷◌, ◌++◌}
use Rattle.std.specs.List.{list_any, position_or_len}
use Rattle.hol_terms.specs.declared.ty.Ty.{Ty}
use Rattle.hol_terms.specs.Types.{is_ty}

-- the number of a type: its place, or the next where it isn't there
abbrev pub number_in : List Ty → Ty → ℕ
number_in types a = position_or_len (is_ty a) types

-- the types with one more, where it isn't there yet
abbrev pub with_type : List Ty → Ty → List Ty
with_type types a = if list_any (is_ty a) types then types else types ++ a ∷ []
