use Rattle.std.proofs.Common.{subst}
use Rattle.sledge_engine.specs.Runs.{drill_goal, not_generated}
use Rattle.sledge_engine.specs.inner.Posing.{IsFoundGoal}
use Rattle.sledge_engine.proofs.Asking.{asks_to_drill}
use Rattle.sledge_engine.proofs.Generating.{missing_generated}
use Rattle.sledge_engine.proofs.preparing.prepare_generated.Goals as goal

pub returns-in_ok-entry-in-Goal : goal.returns-in_ok-entry-in-Goal
returns-in_ok-entry-in-Goal g c =
    λ words o line is reads.
    let found = subst (IsFoundGoal c.args.theory drill_goal c.find.new.text) c.in-Goal.is c.in_ok-goal.ensures in
    asks_to_drill words o c.find.new.text c.args.line.now c.args.theory c.in-Goal.goal c.in_ok-entry-in-Goal.entry line is reads found.0 found.1 c.in_ok-entry-in-Goal.ensures

pub returns-in-Refused : goal.returns-in-Refused
returns-in-Refused g c =
    λ words o line is reads.
    let found = subst (IsFoundGoal c.args.theory drill_goal c.find.new.text) c.in-Refused.is c.in_ok-goal.ensures in
    not_generated c.args.line.now c.in-Refused.status c.find.new.text line is
    (missing_generated c.args.line.now.number c.args.theory c.find.new.text c.in-Refused.status reads found)
