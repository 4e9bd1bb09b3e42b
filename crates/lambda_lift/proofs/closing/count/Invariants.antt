use Rattle.std.proofs.Common.{◌≡◌, length}
use Rattle.lambda_lift.specs.Closing.{variables}
use Rattle.lambda_lift.specs.inner.Marks.{passes}
use Rattle.lambda_lift.proofs.closing.count.Given as goal

abbrev pub invariant-loop-v : goal.invariant-loop-v
invariant-loop-v l = l.total ≡ length (variables (passes l.marks) l.v)
