use Rattle.fo_infer.proofs.OneLists.{one_between}
use Rattle.fo_infer.proofs.laws.between_is_one_list.Goals as goal

pub returns : goal.returns
returns c = one_between c.args.p.now c.args.q.now
