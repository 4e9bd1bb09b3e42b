use Rattle.std.proofs.Common.{◌≡◌, take, fold}
use Rattle.fo_cells.specs.Print.{literal_mixed}
use Rattle.fo_cells.proofs.print.print_of.Given as goal

abbrev pub invariant-loop-l : goal.invariant-loop-l
invariant-loop-l l = l.print ≡ fold literal_mixed 7 (take l.l-index l.c.literals)
