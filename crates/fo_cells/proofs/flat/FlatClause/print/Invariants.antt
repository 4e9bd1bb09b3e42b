use Rattle.std.proofs.Common.{◌≡◌, take, fold}
use Rattle.fo_cells.specs.Print.{literal_mixed}
use Rattle.fo_cells.proofs.flat.FlatClause.print.Given as goal

abbrev pub invariant-loop-i : goal.invariant-loop-i
invariant-loop-i l = l.print ≡ fold literal_mixed 7 (take l.i l.self)
