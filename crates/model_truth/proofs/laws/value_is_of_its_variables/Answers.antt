use Rattle.std.proofs.Common.{[]}
use Rattle.model_truth.proofs.Substituting.{value_depends}
use Rattle.model_truth.proofs.laws.value_is_of_its_variables.Goals as goal

pub returns : goal.returns
returns c = λ v w agree. value_depends c.args.sig.now c.args.model.now v w c.args.t.now [] [] agree
