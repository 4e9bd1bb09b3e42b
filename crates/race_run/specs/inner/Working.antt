-- What a worker has in hand.
use Rattle.std.specs.Prelude.{ℕ, ◌+◌, ◌≡◌, ◌≢◌, ◌⊎◌, false, List, Option, Some, slice_get}
use Rattle.race_core.specs.declared.race.Race.{Race}
use Rattle.race_core.specs.declared.slot.SlotState.TheVariants.{Waiting}
use Rattle.race_core.specs.Steps.{is_open}
use Rattle.race_outside.specs.Pipes.{Told}
use Rattle.race_board.specs.Ends.{Terms, IsOfRace}
use Rattle.race_run.specs.declared.taken.Taken.{Taken}
use Rattle.race_run.specs.declared.taken.Taken.TheVariants.{Up, Refused, Nothing}

-- a started child is one more that its worker has to wait for
abbrev pub Takes : {P : Type 0} → ℕ → ℕ → Taken P → Type 0
Takes before now (Up k p) = now ≡ before + 1
Takes before now Refused = now ≡ before
Takes before now Nothing = now ≡ before

-- the pipe of a started child is one of the race, of which nothing was read
abbrev pub Carries : {P : Type 0} → (P → ℕ) → (P → Told) → (P → Option (List ℕ)) → Terms → Taken P → Type 0
Carries number told left terms (Up k p) = (left p ≡ (told p).whole) × (told p ≡ terms.children (number p)) × IsOfRace terms (number p)
Carries number told left terms _ = Unit {0}

-- no slot can be started any more: the race is over, or none waits
abbrev pub AllTaken : Race → Type 0
AllTaken r = (is_open r ≡ false) ⊎ ((k : ℕ) → slice_get r.slots k ≢ Some Waiting)
