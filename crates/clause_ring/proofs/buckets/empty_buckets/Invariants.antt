use Rattle.std.proofs.Common.{◌≡◌, length}
use Rattle.clause_ring.specs.inner.Buckets.{AreEmpty}
use Rattle.clause_ring.proofs.buckets.empty_buckets.Given as goal

abbrev pub invariant-loop-made : goal.invariant-loop-made
invariant-loop-made l = record { many : length l.buckets.items ≡ l.made; empty : AreEmpty l.buckets.items l.made }
