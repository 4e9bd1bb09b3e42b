use Rattle.std.proofs.Common.{◌≡◌, ◌++◌, take, drop, map}
use Rattle.fo_cells.specs.inner.Seen.{cell_numbered}
use Rattle.fo_cells.proofs.renumbering.renumber.Given as goal

abbrev pub invariant-loop-i : goal.invariant-loop-i
invariant-loop-i l = l.cells ≡ map (cell_numbered l.noted) (take l.i l.initial.cells) ++ drop l.i l.initial.cells
