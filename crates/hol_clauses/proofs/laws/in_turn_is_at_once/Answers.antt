use Rattle.hol_clauses.proofs.InTurn.{solved_at_once}
use Rattle.hol_clauses.proofs.laws.in_turn_is_at_once.Goals as goal

pub returns : goal.returns
returns c = solved_at_once c.args.bindings.now c.args.t.now
