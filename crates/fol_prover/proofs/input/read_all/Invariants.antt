use Rattle.std.proofs.Common.{◌≡◌, ◌≤◌, ◌+◌, ◌-◌, length}
use Rattle.race_outside.specs.Pipes.{Moves}
use Rattle.fol_prover.specs.Replies.{most_bytes}
use Rattle.fol_prover.proofs.input.read_all.Given as goal

abbrev pub invariant-loop-chunk : goal.invariant-loop-chunk
invariant-loop-chunk g l = record {
  later : g.P.Pipe.faults l.initial.pipe ≤ g.P.Pipe.faults l.pipe;
  moved : Moves l.bytes (g.P.Pipe.left l.initial.pipe) (g.P.Pipe.left l.pipe);
}

abbrev pub decreases-loop-chunk : goal.decreases-loop-chunk
decreases-loop-chunk g l = most_bytes + 1 - length l.bytes
