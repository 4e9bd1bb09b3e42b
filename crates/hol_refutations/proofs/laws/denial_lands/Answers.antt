use Rattle.hol_refutations.proofs.Landing.{denial}
use Rattle.hol_refutations.proofs.laws.denial_lands.Goals as goal

pub returns : goal.returns
returns c = denial c.args.a.now c.args.not_b.now c.args.b.now c.args.not_a.now c.args.whole.now c.args.left.now c.args.right.now
