use Rattle.hol_clausify.proofs.Choosing.{chosen_shown}
use Rattle.hol_clausify.proofs.laws.chosen_is_shown.Goals as goal

pub returns : goal.returns
returns c = chosen_shown c.args.table.now c.args.ty.now c.args.property.now c.args.more.now
