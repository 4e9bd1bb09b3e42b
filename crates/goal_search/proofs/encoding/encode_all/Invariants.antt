use Rattle.std.proofs.Common.{◌≡◌, take}
use Rattle.goal_search.specs.Encoded.{encoded}
use Rattle.goal_search.proofs.encoding.encode_all.Given as goal

abbrev pub invariant-loop-clause : goal.invariant-loop-clause
invariant-loop-clause l = l.out ≡ encoded l.signs.signs (take l.clause-index l.clauses)
