use Rattle.hol_refutations.proofs.Landing.{both}
use Rattle.hol_refutations.proofs.laws.both_land.Goals as goal

pub returns : goal.returns
returns c = both c.args.first.now c.args.second.now c.args.whole.now c.args.left.now c.args.right.now
