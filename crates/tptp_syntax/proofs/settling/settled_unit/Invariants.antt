use Rattle.std.proofs.Common.{◌≡◌, length}
use Rattle.tptp_syntax.specs.inner.Machine.{settle_unit}
use Rattle.tptp_syntax.proofs.settling.settled_unit.Given as goal

abbrev pub invariant-frames : goal.invariant-frames
invariant-frames l = settle_unit l.whole l.frames l.scope ≡ settle_unit l.fn.part l.fn.frames l.fn.scope

abbrev pub decreases-frames : goal.decreases-frames
decreases-frames l = length l.frames
