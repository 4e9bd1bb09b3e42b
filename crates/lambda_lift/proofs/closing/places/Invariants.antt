use Rattle.std.proofs.Common.{length}
use Rattle.lambda_lift.specs.inner.Marks.{passes}
use Rattle.lambda_lift.proofs.Binding.{Placed}
use Rattle.lambda_lift.proofs.closing.places.Given as goal

abbrev pub invariant-loop-v : goal.invariant-loop-v
invariant-loop-v l = Placed (passes l.marks) (length l.marks) l.total l.v l.next l.places
