-- Whether a term is in a table.
use Rattle.std.specs.Prelude.{◌≡◌, ℕ, true, false, List, Option, Some, None}
use Rattle.std.specs.List.{list_any}
use Rattle.hol_terms.specs.declared.term.Term.{Term}
use Rattle.lambda_lift.specs.declared.table.Aux.{Aux}
use Rattle.lambda_lift.specs.Keys.{is_same}
use Rattle.lambda_lift.specs.Tables.{closed_terms, place}

abbrev pub IsNew : List Aux → Term → Type 0
IsNew table t = list_any (is_same t) (closed_terms table) ≡ false

-- the number of the term, or none where it is new
abbrev pub Numbers : List Aux → Term → Option ℕ → Type 0
Numbers table t (Some k) = (k ≡ place table t) × (list_any (is_same t) (closed_terms table) ≡ true)
Numbers table t None = IsNew table t
