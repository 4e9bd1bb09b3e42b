use Rattle.std.proofs.Common.{◌≡◌}
use Rattle.race_run.proofs.worker.work.Given as goal

abbrev pub invariant-loop-turn : goal.invariant-loop-turn
invariant-loop-turn g l = record {
  amount : l.share.amount ≡ l.initial.share.amount;
  parts : l.share.parts ≡ l.initial.share.parts;
}
