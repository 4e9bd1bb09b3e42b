use Rattle.std.proofs.Common.{◌≡◌, take, fold}
use Rattle.fo_cells.specs.Print.{cell_mixed}
use Rattle.fo_cells.proofs.print.mix_cells.Given as goal

abbrev pub invariant-loop-cell : goal.invariant-loop-cell
invariant-loop-cell l = l.print ≡ fold cell_mixed l.initial.print (take l.cell-index l.cells)
