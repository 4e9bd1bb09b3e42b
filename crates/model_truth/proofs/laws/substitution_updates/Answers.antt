use Rattle.std.proofs.Common.{[], refl}
use Rattle.model_truth.proofs.Substituting.{value_put}
use Rattle.model_truth.proofs.laws.substitution_updates.Goals as goal

pub returns : goal.returns
returns c = λ v typed. value_put c.args.sig.now c.args.model.now v c.args.u.now c.args.s.now typed c.args.t.now [] [] [] [] 0 refl refl
