use Rattle.std.proofs.Common.{◌≡◌, ◌≤◌, true}
use Rattle.lambda_lift.specs.Closing.{variables, applied_to}
use Rattle.lambda_lift.proofs.equation.applied.Given as goal

abbrev pub decreases-loop-v : goal.decreases-loop-v
decreases-loop-v l = l.v

abbrev pub invariant-loop-v : goal.invariant-loop-v
invariant-loop-v l = (l.v ≤ l.count) × (applied_to l.term (variables (λ v. true) l.v) ≡ applied_to l.initial.term (variables (λ v. true) (l.count)))
