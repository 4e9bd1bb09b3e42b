use Rattle.std.proofs.Common.{◌≡◌, false}
use Rattle.race_run.proofs.worker.replay_until_over.Given as goal

abbrev pub invariant-loop-task : goal.invariant-loop-task
invariant-loop-task g l = record {
  key : g.W.Work.task_key l.task ≡ g.W.Work.key l.job;
  bytes : g.W.Work.task_bytes l.task ≡ l.bytes;
  going : g.W.Work.over l.task ≡ false;
}

abbrev pub decreases-loop-task : goal.decreases-loop-task
decreases-loop-task g l = g.W.Work.turns l.task
