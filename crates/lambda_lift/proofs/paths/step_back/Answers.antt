use Rattle.lambda_lift.proofs.PathsBehind.{popped}
use Rattle.lambda_lift.proofs.paths.step_back.Goals as goal

pub returns : goal.returns
returns c = popped c.pop.result c.args.path.now c.pop.new.self c.pop.ensures
