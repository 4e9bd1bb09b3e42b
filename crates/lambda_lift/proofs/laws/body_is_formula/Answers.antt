use Rattle.lambda_lift.proofs.Growing.{body_back}
use Rattle.lambda_lift.proofs.laws.body_is_formula.Goals as goal

pub returns : goal.returns
returns c = body_back c.args.sig.now c.args.table.now c.args.formula.now
