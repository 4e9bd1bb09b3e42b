use Rattle.fo_infer.proofs.OneLists.{one_alone}
use Rattle.fo_infer.proofs.laws.alone_is_one_list.Goals as goal

pub returns : goal.returns
returns c = one_alone c.args.p.now
