use Rattle.std.proofs.Common.{◌≡◌, take}
use Rattle.fo_cells.proofs.flat.FlatClause.to_clause.Given as goal

abbrev pub invariant-loop-i : goal.invariant-loop-i
invariant-loop-i l = l.literals ≡ take l.i l.self
