-- Cells that are written behind others, as long as there are at most 512 in all.
use Rattle.std.specs.Prelude.{◌≡◌, ℕ, ◌+◌, ◌<◌, ◌≤◌, Bool, true, false, List, ◌++◌, length}
use Rattle.fo_terms.specs.declared.term.FoTerm.{FoTerm}
use Rattle.fo_terms.specs.Substitution.{put}
use Rattle.fo_cells.specs.declared.cell.Cell.{Cell}
use Rattle.fo_cells.specs.Cells.{cells_of}

-- the cells of a term with a substitution put through it
abbrev pub cells_put : (ℕ → FoTerm) → FoTerm → List Cell
cells_put v t = cells_of (put v t)

-- the cells stand behind the old ones, and there are at most 512; or there would be more
abbrev pub Written : List Cell → List Cell → Bool → List Cell → Type 0
Written old cells true new = (new ≡ old ++ cells) × (length new ≤ 512)
Written old cells false new = 512 < length old + length cells
