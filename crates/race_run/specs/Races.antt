-- What a finished race tells.
use Rattle.std.specs.Prelude.{ℕ, ◌≡◌, List, map, Option, Some}
use Rattle.race_core.specs.declared.race.Race.{Race}
use Rattle.race_core.specs.declared.event.Event.{Event}
use Rattle.race_core.specs.declared.slot.SlotEnd.{SlotEnd}
use Rattle.race_core.specs.declared.slot.SlotState.TheVariants.{Settled}
use Rattle.race_core.specs.Steps.{after}
use Rattle.race_core.specs.Verdicts.{verdict_of}

-- from n waiting slots each of these events is legal. Then every slot is settled with the verdict of its outcome, and this slot has won
pub record IsSchedule {P : Type 0} (n : ℕ) (until : Option ℕ) (events : List Event) (slots : List (SlotEnd P)) (winner : Option ℕ) : Type 0 where
  pub race : Race
  pub made : after n until events ≡ Some race
  pub settled : race.slots ≡ map (λ end. Settled (verdict_of end.outcome)) slots
  pub won : race.winner ≡ winner
