use Rattle.std.proofs.Common.{◌≡◌, ◌≤◌, ◌-◌, length}
use Rattle.race_outside.specs.Pipes.{Moves}
use Rattle.race_board.specs.Drains.{most_bytes}
use Rattle.race_run.proofs.reading.read_all.Given as goal

abbrev pub invariant-loop-chunk : goal.invariant-loop-chunk
invariant-loop-chunk g l = record {
  number : g.P.Pipe.number l.pipe ≡ g.P.Pipe.number l.initial.pipe;
  told : g.P.Pipe.told l.pipe ≡ g.P.Pipe.told l.initial.pipe;
  later : g.P.Pipe.faults l.initial.pipe ≤ g.P.Pipe.faults l.pipe;
  few : length l.bytes ≤ most_bytes;
  moved : Moves l.bytes (g.P.Pipe.told l.initial.pipe).whole (g.P.Pipe.left l.pipe);
}

abbrev pub decreases-loop-chunk : goal.decreases-loop-chunk
decreases-loop-chunk g l = most_bytes - length l.bytes
