use Rattle.model_truth.proofs.Derivations.{no_proof}
use Rattle.model_truth.proofs.laws.countermodels_refute.Goals as goal

pub returns : goal.returns
returns c = λ is refutes. no_proof c.args.env.now c.args.model.now is c.args.facts.now refutes
