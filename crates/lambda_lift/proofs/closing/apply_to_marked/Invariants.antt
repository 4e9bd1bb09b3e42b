use Rattle.std.proofs.Common.{◌≡◌, ◌≤◌, length}
use Rattle.lambda_lift.specs.Closing.{variables, applied_to}
use Rattle.lambda_lift.specs.inner.Marks.{passes}
use Rattle.lambda_lift.proofs.closing.apply_to_marked.Given as goal

abbrev pub decreases-loop-v : goal.decreases-loop-v
decreases-loop-v l = l.v

abbrev pub invariant-loop-v : goal.invariant-loop-v
invariant-loop-v l = (l.v ≤ length l.marks) × (applied_to l.term (variables (passes l.marks) l.v) ≡ applied_to l.initial.term (variables (passes l.marks) (length l.marks)))
