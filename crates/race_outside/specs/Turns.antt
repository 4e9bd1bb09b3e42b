-- What a turn of a task gives.
use Rattle.std.specs.Prelude.{◌≡◌, Bool, true, false}
use Rattle.race_core.specs.declared.outcome.Outcome.{Outcome}
use Rattle.race_outside.specs.declared.work_turn.WorkTurn.{WorkTurn}
use Rattle.race_outside.specs.declared.work_turn.WorkTurn.TheVariants.{More, Done}

-- a task that goes on isn't over; one that is done is, with an outcome that these bytes may have
abbrev pub Turns : {P : Type 0} → (Outcome P → Type 0) → Bool → WorkTurn P → Type 0
Turns answers over More = over ≡ false
Turns answers over (Done o) = (over ≡ true) × answers o
