use Rattle.std.proofs.Common.{◌≡◌, false}
use Rattle.slot_work.specs.Answers.{key_of}
use Rattle.engine_tests.proofs.replays.worked.Given as goal

abbrev pub invariant-loop-outcome : goal.invariant-loop-outcome
invariant-loop-outcome l = record {
  key : l.task.key ≡ key_of l.job.theory l.job.goal l.job.budget;
  going : l.task.over ≡ false;
}

abbrev pub decreases-loop-outcome : goal.decreases-loop-outcome
decreases-loop-outcome l = l.task.left
