use Rattle.std.proofs.Common.{[], refl}
use Rattle.model_truth.proofs.Substituting.{value_abstracted}
use Rattle.model_truth.proofs.laws.abstraction_updates.Goals as goal

pub returns : goal.returns
returns c = λ v x fits. value_abstracted c.args.sig.now c.args.model.now v c.args.n c.args.ty.now x fits c.args.t.now [] [] [] [] 0 refl refl
