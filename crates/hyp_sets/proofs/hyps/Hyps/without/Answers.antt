use Rattle.std.proofs.Common.{◌∙◌, sym}
use Rattle.hyp_sets.proofs.Answered.{if_ok_is}
use Rattle.hyp_sets.proofs.Kept.{remove_absent}
use Rattle.hyp_sets.proofs.hyps.Hyps.without.Goals as goal

pub returns-else-holds : goal.returns-else-holds
returns-else-holds c = if_ok_is c.again.result _ _ (remove_absent c.args.self.now c.args.t.now (sym c.holds.ensures ∙ c.if-holds.false)) c.again.ensures
