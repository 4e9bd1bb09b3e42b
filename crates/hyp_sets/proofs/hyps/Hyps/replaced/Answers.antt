use Rattle.std.proofs.Common.{◌∙◌, sym}
use Rattle.hyp_sets.proofs.Answered.{if_ok_is}
use Rattle.hyp_sets.proofs.Images.{image_absent}
use Rattle.hyp_sets.proofs.hyps.Hyps.replaced.Goals as goal

pub returns-then-lacks : goal.returns-then-lacks
returns-then-lacks c = if_ok_is c.again.result _ _ (image_absent c.args.n c.args.ty.now c.args.u.now c.args.self.now (sym c.lacks.ensures ∙ c.if-lacks.true)) c.again.ensures
