use Rattle.hol_clausify.proofs.Choosing.{choice_stands}
use Rattle.hol_clausify.proofs.laws.choice_stands.Goals as goal

pub returns : goal.returns
returns c = choice_stands c.args.table.now c.args.types.now c.args.ty.now c.args.property.now
