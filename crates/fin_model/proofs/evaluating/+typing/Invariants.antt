use Rattle.std.proofs.Common.{◌+◌, ◌*◌}
use Rattle.fin_model.specs.inner.Nodes.{nodes}
use Rattle.fin_model.proofs.evaluating.+typing.Given as goal

abbrev pub decreases-ty_under : goal.decreases-ty_under
decreases-ty_under l = 2 * nodes l.t.now

abbrev pub decreases-lambda_ty : goal.decreases-lambda_ty
decreases-lambda_ty l = 2 * nodes l.b.now + 1
