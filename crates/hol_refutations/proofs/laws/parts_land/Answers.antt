use Rattle.hol_refutations.proofs.Landing.{parts}
use Rattle.hol_refutations.proofs.laws.parts_land.Goals as goal

pub returns : goal.returns
returns c = parts c.args.first.now c.args.second.now c.args.whole.now c.args.left.now c.args.right.now
