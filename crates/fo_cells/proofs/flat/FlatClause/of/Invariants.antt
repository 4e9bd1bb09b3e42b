use Rattle.std.proofs.Common.{◌≡◌, take}
use Rattle.fo_cells.proofs.flat.FlatClause.of.Given as goal

abbrev pub invariant-loop-l : goal.invariant-loop-l
invariant-loop-l l = l.flat ≡ take l.l-index l.c.literals
