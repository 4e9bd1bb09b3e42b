use Rattle.hol_derived.proofs.Crossing.{cut_there}
use Rattle.hol_derived.proofs.contracting.crossed.Goals as goal

pub returns-clause-path : goal.returns-clause-path
returns-clause-path c = cut_there c.reached-reach.result.numbers c.args.path.now
