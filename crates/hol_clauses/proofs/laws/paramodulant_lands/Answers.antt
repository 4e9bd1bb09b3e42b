use Rattle.hol_clauses.proofs.Clauses.{paramodulant}
use Rattle.hol_clauses.proofs.laws.paramodulant_lands.Goals as goal

pub returns : goal.returns
returns c = paramodulant c.args.e.now c.args.l.now c.args.b.now c.args.left.now c.args.right.now
