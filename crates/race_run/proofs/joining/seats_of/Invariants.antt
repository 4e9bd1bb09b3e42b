use Rattle.std.proofs.Common.{◌≡◌, ◌+◌, ◌≤◌, vec_len}
use Rattle.std.specs.Vec.{vec_capacity}
use Rattle.race_run.proofs.joining.seats_of.Given as goal

abbrev pub invariant-loop-seat : goal.invariant-loop-seat
invariant-loop-seat g l = record {
  parts : l.share.parts + vec_len l.seats ≡ l.initial.share.parts;
  amount : l.share.amount ≡ 0;
  count : vec_len l.seats ≡ l._seat;
  room : l.count ≤ vec_capacity l.seats;
}
