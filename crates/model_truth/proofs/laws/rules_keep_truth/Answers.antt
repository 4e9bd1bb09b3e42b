use Rattle.model_truth.proofs.Derivations.{sequent_true}
use Rattle.model_truth.proofs.laws.rules_keep_truth.Goals as goal

pub returns : goal.returns
returns c = λ is are hold each q h. sequent_true c.args.env.now c.args.model.now is c.args.earlier.now are hold c.args.step.now q each h
