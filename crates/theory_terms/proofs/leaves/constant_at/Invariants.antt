use Rattle.std.proofs.Common.{◌+◌, ◌-◌, length}
use Rattle.theory_terms.specs.inner.Leaves.{AreLeaves, declared}
use Rattle.theory_terms.proofs.leaves.constant_at.Given as goal

abbrev pub invariant-more : goal.invariant-more
invariant-more l = AreLeaves declared l.held

abbrev pub decreases-more : goal.decreases-more
decreases-more l = l.place + 1 - length l.held
