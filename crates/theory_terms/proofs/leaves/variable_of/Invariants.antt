use Rattle.std.proofs.Common.{◌+◌, ◌-◌, length}
use Rattle.theory_terms.specs.inner.Leaves.{AreLeaves, variable}
use Rattle.theory_terms.proofs.leaves.variable_of.Given as goal

abbrev pub invariant-more : goal.invariant-more
invariant-more l = AreLeaves variable l.held

abbrev pub decreases-more : goal.decreases-more
decreases-more l = l.index + 1 - length l.held
