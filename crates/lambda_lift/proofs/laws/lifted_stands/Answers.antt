use Rattle.lambda_lift.proofs.Standings.{lifted_stand}
use Rattle.lambda_lift.proofs.laws.lifted_stands.Goals as goal

pub returns : goal.returns
returns c = λ has_bool alone sentence. lifted_stand c.args.sig.now has_bool c.args.table.now c.args.formula.now alone sentence
