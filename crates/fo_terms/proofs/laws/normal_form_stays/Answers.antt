use Rattle.fo_terms.proofs.NormalTwice.{normal_form_stays}
use Rattle.fo_terms.proofs.laws.normal_form_stays.Goals as goal

pub returns : goal.returns
returns c = normal_form_stays c.args.clause.now.literals
