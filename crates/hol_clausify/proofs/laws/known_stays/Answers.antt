use Rattle.hol_clausify.proofs.Expanding.{known_same}
use Rattle.hol_clausify.proofs.laws.known_stays.Goals as goal

pub returns : goal.returns
returns c = known_same c.args.table.now c.args.more.now c.args.t.now
