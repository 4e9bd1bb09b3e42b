use Rattle.std.proofs.Common.{◌≤◌, ◌+◌}
use Rattle.clause_ring.specs.inner.Buckets.{AreEmpty}
use Rattle.clause_ring.proofs.buckets.first_filled.Given as goal

abbrev pub invariant-loop-weight : goal.invariant-loop-weight
invariant-loop-weight g l = record { lighter : AreEmpty l.buckets l.weight; counted : l.steps ≤ l.initial.steps + l.weight }
