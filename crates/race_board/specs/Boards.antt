-- What contracts see of a board.
use Rattle.std.specs.Prelude.{ℕ, ◌≡◌, ◌+◌, Bool, true, false, List, [], map, length, sum_by, Option, Some, None}
use Rattle.race_core.specs.declared.race.Race.{Race}
use Rattle.race_core.specs.declared.slot.Order.{Order}
use Rattle.race_core.specs.declared.slot.SlotEnd.{SlotEnd}
use Rattle.race_core.specs.declared.slot.SlotState.{SlotState}
use Rattle.race_core.specs.declared.slot.SlotState.TheVariants.{Waiting, Running, Overdue, Settled}
use Rattle.race_core.specs.declared.outcome.Outcome.TheVariants as outcome
use Rattle.race_core.specs.declared.event.Event.{Event}
use Rattle.race_core.specs.Steps.{fresh}
use Rattle.race_core.specs.Standings.{Standing}
use Rattle.race_outside.specs.Launchers.{Ticks}
use Rattle.race_board.specs.Ends.{Terms, nothing}

-- its history, the race that this has made, what each slot keeps and how it ended, and how its launcher stands; an outcome counts once its slot is settled
pub record View (P : Type 0) : Type 0 where
  pub events : List Event
  pub race : Race
  pub ends : List (SlotEnd P)
  pub launcher : Standing

-- how many children a slot has that were started and not waited for
abbrev pub up : SlotState → ℕ
up Running = 1
up Overdue = 1
up _ = 0

abbrev pub up_of : List SlotState → ℕ
up_of slots = sum_by up slots

-- whether a slot keeps what was read of its child, or that there was none
abbrev pub is_kept : SlotState → Bool
is_kept Waiting = false
is_kept Running = false
is_kept Overdue = false
is_kept _ = true

abbrev pub is_settled : SlotState → Bool
is_settled (Settled v) = true
is_settled _ = false

-- a slot with this order that hasn't ended
abbrev pub unended : {P : Type 0} → Order → SlotEnd P
unended order = record { order = order; kept = nothing; outcome = outcome.NoMemory }

-- where a limit of time is given the clock was read once, and the race ends so much later
abbrev pub Reads : Option ℕ → Option ℕ → Standing → Standing → Type 0
Reads None until before now = (until ≡ None) × (now ≡ before)
Reads (Some limit) until before now = (until ≡ Some (now.last + limit)) × Ticks now.last before now

-- a board on which every slot waits
pub record Begins {P : Type 0} (terms : Terms) (v : View P) : Type 0 where
  pub events : v.events ≡ []
  pub race : v.race ≡ fresh (length terms.orders) v.race.until
  pub ends : v.ends ≡ map unended terms.orders
  pub clock : Reads terms.limit v.race.until terms.first v.launcher
