use Rattle.std.proofs.Common.{true, subst}
use Rattle.hol_clausify.specs.inner.LiftedOver.{IsLifted}
use Rattle.hol_clausify.proofs.Sourced.{made_lifted}
use Rattle.hol_clausify.proofs.sources.goal_sources.Goals as goal

pub lifted_goal-requires-clause-lifted : goal.lifted_goal-requires-clause-lifted
lifted_goal-requires-clause-lifted c =
    subst (λ f. IsLifted c.args.log.now.env.sig f c.args.made.now.lifted c.args.table.now) c.requires.made.1 (made_lifted c.args.log.now.env.sig true c.args.made.now c.args.table.now c.requires.made.0)
