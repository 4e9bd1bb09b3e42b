use Rattle.std.proofs.Common.{◌≡◌, ◌+◌, ◌≤◌, vec_len}
use Rattle.std.specs.Vec.{vec_capacity}
use Rattle.race_run.proofs.reaping.reap_back.Given as goal

abbrev pub invariant-loop-back : goal.invariant-loop-back
invariant-loop-back g l = record {
  parts : l.share.parts ≡ l.initial.share.parts;
  amount : l.share.amount ≡ vec_len l.backs + vec_len l.strays;
  room : vec_len l.backs + vec_len l.strays ≤ vec_capacity l.strays;
}

abbrev pub decreases-loop-back : goal.decreases-loop-back
decreases-loop-back g l = vec_len l.backs

abbrev pub invariant-loop-stray : goal.invariant-loop-stray
invariant-loop-stray g l = record {
  parts : l.share.parts ≡ l.initial.share.parts;
  amount : l.share.amount ≡ vec_len l.strays;
}

abbrev pub decreases-loop-stray : goal.decreases-loop-stray
decreases-loop-stray g l = vec_len l.strays
