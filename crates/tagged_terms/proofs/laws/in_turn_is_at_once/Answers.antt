use Rattle.tagged_terms.proofs.Putting.{settled_put as law}
use Rattle.tagged_terms.proofs.laws.in_turn_is_at_once.Goals as goal

pub returns : goal.returns
returns c = law c.args.t.now
