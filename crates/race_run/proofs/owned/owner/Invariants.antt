use Rattle.std.proofs.Common.{◌≡◌, ◌<◌, ℕ, Some}
use Rattle.std.specs.Prelude.{slice_get}
use Rattle.race_core.specs.Histories.{id_of}
use Rattle.race_board.specs.Calls.{IsUp}
use Rattle.race_run.proofs.owned.owner.Given as goal

abbrev pub invariant-loop-slot : goal.invariant-loop-slot
invariant-loop-slot g l = (k : ℕ) → k < l.slot → IsUp (slice_get l.board.race.slots k) → id_of g.N.Name.terms.first.starts l.board.events k ≡ Some l.id → ⊥
