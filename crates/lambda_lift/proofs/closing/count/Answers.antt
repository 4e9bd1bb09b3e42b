use Rattle.std.proofs.Common.{arith}
use Rattle.lambda_lift.specs.inner.Marks.{passes}
use Rattle.lambda_lift.proofs.Occurring.{fewer}
use Rattle.lambda_lift.proofs.closing.count.Goals as goal

pub overflow_add-total : goal.overflow_add-total
overflow_add-total c = omega (arith, fewer (passes c.args.marks.now) c.loop-v.v, c.loop-v.invariant)
