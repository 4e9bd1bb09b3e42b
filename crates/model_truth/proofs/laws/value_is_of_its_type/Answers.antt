use Rattle.model_truth.proofs.Ranges.{own_value_below}
use Rattle.model_truth.proofs.laws.value_is_of_its_type.Goals as goal

pub returns : goal.returns
returns c = λ is v range a typed. own_value_below c.args.sig.now c.args.model.now is v range c.args.t.now a typed
