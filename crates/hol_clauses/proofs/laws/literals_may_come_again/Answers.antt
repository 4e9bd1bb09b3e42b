use Rattle.hol_clauses.proofs.Clauses.{allowed_more}
use Rattle.hol_clauses.proofs.laws.literals_may_come_again.Goals as goal

pub returns : goal.returns
returns c = allowed_more c.args.p.now c.args.q.now
