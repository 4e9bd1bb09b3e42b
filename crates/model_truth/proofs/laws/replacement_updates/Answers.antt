use Rattle.std.proofs.Common.{[]}
use Rattle.model_truth.proofs.Substituting.{value_replaced}
use Rattle.model_truth.proofs.laws.replacement_updates.Goals as goal

pub returns : goal.returns
returns c = λ v fits typed. value_replaced c.args.sig.now c.args.model.now v c.args.n c.args.ty.now c.args.u.now fits typed c.args.t.now [] []
