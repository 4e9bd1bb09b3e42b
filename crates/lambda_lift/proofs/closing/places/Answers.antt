use Rattle.std.proofs.Common.{arith}
use Rattle.lambda_lift.specs.inner.Marks.{passes}
use Rattle.lambda_lift.proofs.Occurring.{fewer}
use Rattle.lambda_lift.proofs.closing.places.Goals as goal

pub overflow_add-next : goal.overflow_add-next
overflow_add-next c = omega (arith, fewer (passes c.args.marks.now) c.loop-v.v, c.loop-v.invariant.counted)
