use Rattle.std.proofs.Common.{◌≡◌, map}
use Rattle.lambda_lift.specs.Scopes.{scope_types}
use Rattle.lambda_lift.specs.Closing.{variables, lambdas, ty_at}
use Rattle.lambda_lift.specs.inner.Marks.{passes}
use Rattle.lambda_lift.proofs.closing.under_lambdas.Given as goal

abbrev pub invariant-loop-v : goal.invariant-loop-v
invariant-loop-v l = l.inner ≡ lambdas (map (ty_at (scope_types l.scope)) (variables (passes l.marks) l.v)) l.initial.inner
