use Rattle.hol_clausify.proofs.Opening.{put_abstracted}
use Rattle.hol_clausify.proofs.laws.opens_again.Goals as goal

pub returns : goal.returns
returns c = put_abstracted c.args.n c.args.ty.now c.args.t.now 0
