use Rattle.hol_clausify.proofs.Chosen.{chosen_expanded}
use Rattle.hol_clausify.proofs.laws.chosen_expands.Goals as goal

pub returns : goal.returns
returns c = chosen_expanded c.args.table.now c.args.ty.now c.args.property.now c.args.more.now
