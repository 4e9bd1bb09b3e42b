use Rattle.hol_clausify.proofs.Expanding.{expand_put}
use Rattle.hol_clausify.proofs.laws.expands_under.Goals as goal

pub returns : goal.returns
returns c = λ closed. expand_put c.args.table.now closed c.args.value.now c.args.body.now 0
