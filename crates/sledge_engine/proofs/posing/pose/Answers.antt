use Rattle.std.proofs.Common.{subst}
use Rattle.sledge_engine.specs.inner.Posing.{IsFoundGoal}
use Rattle.sledge_engine.proofs.Presence.{missing_by}
use Rattle.sledge_engine.proofs.posing.pose.Goals as goal

pub returns-in-Goal : goal.returns-in-Goal
returns-in-Goal c =
    λ o file held.
    let found = subst (IsFoundGoal c.args.theory c.args.name.now c.find.new.text) c.in-Goal.is c.in_ok-goal.ensures in
    (record { held = held; place = found.0; fits = found.1 }, found.2, found.3, found.4)

pub returns-in-Refused : goal.returns-in-Refused
returns-in-Refused c =
    λ o file held.
    missing_by o file c.args.theory c.args.name.now c.find.new.text c.in-Refused.status held
    (subst (IsFoundGoal c.args.theory c.args.name.now c.find.new.text) c.in-Refused.is c.in_ok-goal.ensures)
