use Rattle.std.proofs.Common.{ap, ◌∙◌}
use Rattle.race_core.specs.Standings.{is_listed}
use Rattle.child_launcher.proofs.Fresh.{new-unkilled, new-unwaited}
use Rattle.child_launcher.proofs.tests.run.Goals as goal
use Rattle.child_launcher.proofs.tests.run.Goals.{then-is_killed, else-is_killed}

pub kill-requires-clause-unkilled : goal.kill-requires-clause-unkilled
kill-requires-clause-unkilled g c = new-unkilled _ _ _ _ c.in_ok-id.ensures.started c.in_ok-id.ensures.killed c.in_ok-id.ensures.id

pub kill-requires-clause-unwaited : goal.kill-requires-clause-unwaited
kill-requires-clause-unwaited g c = new-unwaited _ _ _ _ c.in_ok-id.ensures.started c.in_ok-id.ensures.waited c.in_ok-id.ensures.id

pub reap-requires-clause-unwaited : goal.reap-requires-clause-unwaited
reap-requires-clause-unwaited g c =
    let new = new-unwaited _ _ _ _ c.in_ok-id.ensures.started c.in_ok-id.ensures.waited c.in_ok-id.ensures.id in
    elim c.if-is_killed.branch [
      | then-is_killed w ↦ ap (λ l. is_listed c.in_ok-id.id (g.L.Launcher.standing l).waits) w.launcher-is ∙ ap (is_listed c.in_ok-id.id) w.kill.ensures.kills.waits ∙ new
      | else-is_killed w ↦ ap (λ l. is_listed c.in_ok-id.id (g.L.Launcher.standing l).waits) w.launcher-is ∙ new
    ]
