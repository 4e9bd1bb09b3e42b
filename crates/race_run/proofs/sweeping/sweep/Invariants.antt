use Rattle.std.proofs.Common.{◌≡◌, ◌<◌, ℕ, length}
use Rattle.std.specs.Prelude.{slice_get}
use Rattle.race_board.specs.Boards.{up_of}
use Rattle.race_run.specs.Losses.{AreUnlost}
use Rattle.race_run.specs.inner.Sweeping.{IsSettledAt}
use Rattle.race_run.proofs.sweeping.sweep.Given as goal

abbrev pub invariant-loop-slot : goal.invariant-loop-slot
invariant-loop-slot g l = record {
  none : up_of l.board.race.slots ≡ 0;
  settled : (k : ℕ) → k < l.slot → IsSettledAt (slice_get l.board.race.slots k);
  same : length l.board.race.slots ≡ l.slots;
  unlost : AreUnlost l.initial.board.ends → AreUnlost l.board.ends;
  parts : l.share.parts ≡ l.initial.share.parts;
  amount : l.share.amount ≡ l.initial.share.amount;
}
