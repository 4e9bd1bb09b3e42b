use Rattle.model_truth.proofs.Derivations.{derived_true}
use Rattle.model_truth.proofs.laws.derivations_keep_truth.Goals as goal

pub returns : goal.returns
returns c = λ is each sequents h. derived_true c.args.env.now c.args.model.now is c.args.steps.now sequents each h
