use Rattle.tagged_terms.proofs.Typing.{readings_typed as law}
use Rattle.tagged_terms.proofs.laws.readings_have_types.Goals as goal

pub returns : goal.returns
returns c = law c.args.t.now
