use Rattle.hyp_sets.proofs.OrderLaws.{tied_equal, equal_tied}
use Rattle.hyp_sets.proofs.laws.is_same_is_equality.Goals as goal

pub returns : goal.returns
returns c = (tied_equal c.args.s.now c.args.t.now, equal_tied c.args.s.now c.args.t.now)
