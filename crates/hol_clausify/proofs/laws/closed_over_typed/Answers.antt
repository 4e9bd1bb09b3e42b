use Rattle.hol_clausify.proofs.ClosedTypes.{closed_over_typed}
use Rattle.hol_clausify.proofs.laws.closed_over_typed.Goals as goal

pub returns : goal.returns
returns c = closed_over_typed c.args.sig.now c.args.variables.now c.args.t.now c.args.ty.now
