use Rattle.std.proofs.Common.{◌≡◌, ◌++◌, take, map}
use Rattle.fo_cells.specs.Cells.{joined, cells_of}
use Rattle.fo_cells.proofs.writing.+writing.Given as goal

abbrev pub invariant-put_all-loop-t : goal.invariant-put_all-loop-t
invariant-put_all-loop-t l = l.out ≡ l.initial.out ++ joined (map cells_of (take l.t-index l.terms))
