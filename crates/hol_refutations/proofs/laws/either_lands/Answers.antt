use Rattle.hol_refutations.proofs.Landing.{either}
use Rattle.hol_refutations.proofs.laws.either_lands.Goals as goal

pub returns : goal.returns
returns c = either c.args.first.now c.args.second.now c.args.whole.now c.args.hyps.now
