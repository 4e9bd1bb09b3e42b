use Rattle.hol_clauses.proofs.InTurn.{instance_of}
use Rattle.hol_clauses.proofs.laws.instance_lands.Goals as goal

pub returns : goal.returns
returns c = instance_of c.args.bindings.now c.args.hyps.now
