use Rattle.std.proofs.Common.{◌≡◌, ◌≤◌, take, length}
use Rattle.fo_infer.proofs.covering.undo.Given as goal

abbrev pub invariant-loop-binds : goal.invariant-loop-binds
invariant-loop-binds l = record {
  within : l.mark ≤ length l.binds;
  kept : take l.mark l.binds ≡ take l.mark l.initial.binds;
}

abbrev pub decreases-loop-binds : goal.decreases-loop-binds
decreases-loop-binds l = length l.binds
