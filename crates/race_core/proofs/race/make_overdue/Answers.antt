use Rattle.race_core.specs.Steps.{overdue}
use Rattle.race_core.proofs.Mapped.{mapped-step}
use Rattle.race_core.proofs.race.make_overdue.Goals as goal

pub loop-at-preserved : goal.loop-at-preserved
loop-at-preserved c =
    (mapped-step overdue _ c.args.slots.now _ _ _ _ c.loop-at.invariant.0 c.at.ensures c.overdue-state.ensures c.set.ensures, c.loop-at.invariant.1)
