use Rattle.std.proofs.Common.{◌≡◌, ◌+◌, ◌≤◌, vec_len}
use Rattle.std.specs.Vec.{vec_capacity}
use Rattle.race_run.proofs.joining.gather.Given as goal

abbrev pub invariant-loop-seat : goal.invariant-loop-seat
invariant-loop-seat g l = record {
  parts : l.share.parts + vec_len l.seats ≡ l.initial.share.parts + vec_len l.initial.seats;
  amount : l.share.amount ≡ vec_len l.backs;
  few : vec_len l.backs + vec_len l.seats ≤ vec_len l.initial.backs + vec_len l.initial.seats;
  room : vec_len l.backs + vec_len l.seats ≤ vec_capacity l.backs;
}

abbrev pub decreases-loop-seat : goal.decreases-loop-seat
decreases-loop-seat g l = vec_len l.seats
