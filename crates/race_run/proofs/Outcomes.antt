-- That what was just put down is what a slot keeps.
use Rattle.std.proofs.Common.{ℕ, false, List, [], ◌∷◌, zero, suc, Option}
use Rattle.std.specs.Prelude.{slice_get, IfSome}
use Rattle.race_core.specs.declared.slot.Kept.{Kept}
use Rattle.race_core.specs.declared.slot.SlotEnd.{SlotEnd}
use Rattle.race_core.specs.declared.outcome.Outcome.{Outcome}
use Rattle.race_board.specs.Ends.{MayEnd}
use Rattle.race_board.specs.Calls.{changed, with_kept}

-- a slot keeps what was just put down
pub kept-there : {P : Type 0} (answers : List ℕ → Outcome P → Type 0) (ends : List (SlotEnd P)) (k : ℕ) (kept : Kept) (o : Option (Outcome P))
    → IfSome o (λ p. MayEnd answers false false kept p) → IfSome (slice_get (changed (with_kept kept) k ends) k) (λ end. IfSome o (λ p. MayEnd answers false false end.kept p))
kept-there answers [] k kept o right = tt
kept-there answers (end ∷ ends) zero kept o right = right
kept-there answers (end ∷ ends) (suc k) kept o right = kept-there answers ends k kept o right
