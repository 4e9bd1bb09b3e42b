-- The cell of a symbol before its size is known.
use Rattle.std.specs.Prelude.{◌≡◌, ℕ, ◌+◌, ◌<◌, ◌≤◌, Bool, true, false, List, [], ◌∷◌, ◌++◌, length}
use Rattle.fo_cells.specs.declared.cell.Cell.{Cell}
use Rattle.fo_cells.specs.declared.cell.Cell.TheVariants.{Fun}

-- it stands behind the others, and leaves room for an argument's cell each; or there is none
abbrev pub Opened : List Cell → ℕ → ℕ → Bool → List Cell → Type 0
Opened old symbol count true new = (new ≡ old ++ Fun count 0 symbol ∷ []) × (length new ≤ 512) × (count < 512)
Opened old symbol count false new = 512 < length old + 1 + count
