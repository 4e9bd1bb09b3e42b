use Rattle.std.proofs.Common.{◌≡◌, take}
use Rattle.race_board.specs.Boards.{up_of}
use Rattle.race_run.proofs.reaping.first_up.Given as goal

abbrev pub invariant-loop-slot : goal.invariant-loop-slot
invariant-loop-slot l = up_of (take l.slot l.slots) ≡ 0
