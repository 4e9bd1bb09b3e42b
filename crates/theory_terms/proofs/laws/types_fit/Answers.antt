use Rattle.theory_terms.proofs.TypeFits.{type_fits}
use Rattle.theory_terms.proofs.laws.types_fit.Goals as goal

pub returns : goal.returns
returns c = type_fits c.args.text.now c.args.known.now c.args.tree.now
