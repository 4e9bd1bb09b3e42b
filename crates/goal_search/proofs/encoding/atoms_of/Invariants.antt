use Rattle.std.proofs.Common.{◌≡◌, take}
use Rattle.goal_search.specs.Encoded.{atoms}
use Rattle.goal_search.proofs.encoding.atoms_of.Given as goal

abbrev pub invariant-loop-clause : goal.invariant-loop-clause
invariant-loop-clause l = l.out ≡ atoms (take l.clause-index l.clauses)
