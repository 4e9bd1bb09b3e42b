use Rattle.tagged_terms.proofs.Putting.{replacements_join as law}
use Rattle.tagged_terms.proofs.laws.replacements_join.Goals as goal

pub returns : goal.returns
returns c = law c.args.t.now
