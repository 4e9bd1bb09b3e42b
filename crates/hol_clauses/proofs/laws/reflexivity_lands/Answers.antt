use Rattle.hol_clauses.proofs.Clauses.{without_it}
use Rattle.hol_clauses.proofs.laws.reflexivity_lands.Goals as goal

pub returns : goal.returns
returns c = without_it c.args.e.now c.args.hyps.now
