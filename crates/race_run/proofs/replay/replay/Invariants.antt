use Rattle.std.proofs.Common.{◌≡◌, false}
use Rattle.race_run.proofs.replay.replay.Given as goal

abbrev pub invariant-loop-outcome : goal.invariant-loop-outcome
invariant-loop-outcome g l = record {
  key : g.W.Work.task_key l.task ≡ g.W.Work.key l.job;
  bytes : g.W.Work.task_bytes l.task ≡ l.bytes;
  going : g.W.Work.over l.task ≡ false;
}

abbrev pub decreases-loop-outcome : goal.decreases-loop-outcome
decreases-loop-outcome g l = g.W.Work.turns l.task
