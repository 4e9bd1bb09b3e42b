use Rattle.std.proofs.Common.{take}
use Rattle.slot_work.specs.inner.Lookups.{FindsNames}
use Rattle.slot_work.proofs.leaves.table_of.Given as goal

abbrev pub invariant-loop-leaf : goal.invariant-loop-leaf
invariant-loop-leaf l = FindsNames (take l.leaf-index l.leaves) l.table
