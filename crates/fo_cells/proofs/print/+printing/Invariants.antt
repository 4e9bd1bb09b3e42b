use Rattle.std.proofs.Common.{◌≡◌, take, map, fold}
use Rattle.fo_cells.specs.Cells.{joined, cells_of}
use Rattle.fo_cells.specs.Print.{cell_mixed}
use Rattle.fo_cells.proofs.print.+printing.Given as goal

abbrev pub invariant-mix_terms-loop-t : goal.invariant-mix_terms-loop-t
invariant-mix_terms-loop-t l = l.print ≡ fold cell_mixed l.initial.print (joined (map cells_of (take l.t-index l.terms)))
