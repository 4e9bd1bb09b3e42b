use Rattle.tagged_terms.proofs.Solving.{unifiers_fit as law}
use Rattle.tagged_terms.proofs.laws.unifiers_fit.Goals as goal

pub returns : goal.returns
returns c = law c.args.binds.now
