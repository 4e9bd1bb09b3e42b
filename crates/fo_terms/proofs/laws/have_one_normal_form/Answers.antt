use Rattle.fo_terms.proofs.NormalForms.{one_normal_form}
use Rattle.fo_terms.proofs.laws.have_one_normal_form.Goals as goal

pub returns : goal.returns
returns c = one_normal_form c.args.left.now.literals c.args.right.now.literals
