use Rattle.tagged_terms.proofs.Standing.{readings_stand as law}
use Rattle.tagged_terms.proofs.laws.readings_are_terms.Goals as goal

pub returns : goal.returns
returns c = law c.args.t.now
