use Rattle.hol_refutations.proofs.Landing.{part}
use Rattle.hol_refutations.proofs.laws.part_lands.Goals as goal

pub returns : goal.returns
returns c = part c.args.part.now c.args.whole.now c.args.hyps.now
