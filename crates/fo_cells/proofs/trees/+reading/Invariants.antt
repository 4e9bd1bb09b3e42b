use Rattle.std.proofs.Common.{◌≡◌, ◌++◌, take, map}
use Rattle.fo_cells.specs.Cells.{joined, cells_of}
use Rattle.fo_cells.proofs.trees.+reading.Given as goal

abbrev pub invariant-behind_all-loop-t : goal.invariant-behind_all-loop-t
invariant-behind_all-loop-t l = joined (map cells_of (take l.t-index l.terms)) ++ l.rest ≡ l.cells
