use Rattle.std.proofs.Common.{take}
use Rattle.tstp_read.specs.inner.Leaves.{HasNoRoot}
use Rattle.tstp_read.proofs.reach.root_of.Given as goal

abbrev pub invariant-loop-at : goal.invariant-loop-at
invariant-loop-at l = HasNoRoot (take l.at l.entries)
