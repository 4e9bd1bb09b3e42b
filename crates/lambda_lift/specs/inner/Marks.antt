-- Variables of binders marked in a list, the innermost first, and their places under new lambdas.
use Rattle.std.specs.Prelude.{◌≡◌, ℕ, ◌+◌, ◌<◌, Bool, false, ◌||◌, List, length, slice_get, unwrap_or}
use Rattle.hol_terms.specs.declared.term.Term.{Term}
use Rattle.lambda_lift.specs.Closing.{occurs_behind}

-- the variable is marked
abbrev pub passes : List Bool → ℕ → Bool
passes marks v = unwrap_or (slice_get marks v) false

-- the variables that occur behind `d` binders of the term are marked too
abbrev pub MarksMore : Term → ℕ → List Bool → List Bool → Type 0
MarksMore t d old new =
    (length new ≡ length old) × ((v : ℕ) → v < length old → passes new v ≡ (passes old v || occurs_behind v t d))

-- the index that stands for a variable: that at its place, or one that points beyond `total` lambdas
abbrev pub index_in : List ℕ → ℕ → ℕ → ℕ
index_in places total v = unwrap_or (slice_get places v) (v + total)
