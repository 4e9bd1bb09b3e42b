use Rattle.std.proofs.Common.{◌≡◌, take}
use Rattle.tstp_read.proofs.reach.copies.Given as goal

abbrev pub invariant-loop-parent : goal.invariant-loop-parent
invariant-loop-parent l = l.out ≡ take l.parent-index l.parents
