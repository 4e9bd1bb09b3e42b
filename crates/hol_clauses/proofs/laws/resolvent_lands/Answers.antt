use Rattle.hol_clauses.proofs.Clauses.{resolvent}
use Rattle.hol_clauses.proofs.laws.resolvent_lands.Goals as goal

pub returns : goal.returns
returns c = resolvent c.args.a.now c.args.left.now c.args.right.now
