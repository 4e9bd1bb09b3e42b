-- What each call of a board does.
use Rattle.std.specs.Prelude.{ℕ, ◌≡◌, ◌≤◌, Bool, true, false, List, [], ◌∷◌, ◌++◌, Option, Some, None, if◌then◌else◌, zero, suc}
use Rattle.race_core.specs.declared.slot.Order.{Order}
use Rattle.race_core.specs.declared.slot.Kept.{Kept}
use Rattle.race_core.specs.declared.slot.SlotEnd.{SlotEnd}
use Rattle.race_core.specs.declared.slot.SlotState.{SlotState}
use Rattle.race_core.specs.declared.slot.SlotState.TheVariants.{Reaped, ReapedLate}
use Rattle.race_core.specs.declared.outcome.Outcome.{Outcome}
use Rattle.race_core.specs.declared.outcome.Outcome.TheVariants as outcome
use Rattle.race_core.specs.declared.event.Event.{Event}
use Rattle.race_core.specs.declared.event.Event.TheVariants as event
use Rattle.race_core.specs.Steps.{step_of}
use Rattle.race_core.specs.Standings.{Standing}
use Rattle.race_outside.specs.Launchers.{Starts, Refuses}
use Rattle.race_board.specs.declared.launched.Launched.{Launched}
use Rattle.race_board.specs.declared.launched.Launched.TheVariants.{Up, NoStart, NoRoom}
use Rattle.race_board.specs.declared.drain_end.DrainEnd.{DrainEnd}
use Rattle.race_board.specs.declared.drain_end.DrainEnd.TheVariants as drain
use Rattle.race_board.specs.Drains.{Reading}
use Rattle.race_board.specs.Ends.{MayEnd, is_up}
use Rattle.race_board.specs.Boards.{View, is_kept}

-- one more event, which is one step of the race
pub record Enters {P : Type 0} (before now : View P) (e : Event) : Type 0 where
  pub events : now.events ≡ before.events ++ e ∷ []
  pub step : step_of before.race e ≡ Some now.race

-- a list with the item at one place changed
abbrev pub changed : {A : Type 0} → (A → A) → ℕ → List A → List A
changed f k [] = []
changed f zero (x ∷ xs) = f x ∷ xs
changed f (suc k) (x ∷ xs) = x ∷ changed f k xs

-- a slot with another outcome, and one that keeps this
abbrev pub with_outcome : {P : Type 0} → Outcome P → SlotEnd P → SlotEnd P
with_outcome o end = record { order = end.order; kept = end.kept; outcome = o }

abbrev pub with_kept : {P : Type 0} → Kept → SlotEnd P → SlotEnd P
with_kept kept end = record { order = end.order; kept = kept; outcome = end.outcome }

-- these children were killed, in this order
pub record KillsAll (ids : List ℕ) (before now : Standing) : Type 0 where
  pub starts : now.starts ≡ before.starts
  pub orders : now.orders ≡ before.orders
  pub kills : now.kills ≡ before.kills ++ ids
  pub waits : now.waits ≡ before.waits
  pub faults : before.faults ≤ now.faults
  pub last : now.last ≡ before.last

-- the clock was read, and these children were killed
pub record TicksAndKills (ids : List ℕ) (before now : Standing) : Type 0 where
  pub starts : now.starts ≡ before.starts
  pub orders : now.orders ≡ before.orders
  pub kills : now.kills ≡ before.kills ++ ids
  pub waits : now.waits ≡ before.waits
  pub faults : before.faults ≤ now.faults
  pub last : before.last ≤ now.last

-- the event of a launch, what the launcher did, what the slot has then, and how many children it has
abbrev pub launch_event : {P : Type 0} → ℕ → Launched P → Event
launch_event k (Up p) = event.Launch k
launch_event k NoStart = event.NoStart k
launch_event k NoRoom = event.NoRoom k

abbrev pub Launches : {P : Type 0} → Option Order → Standing → Standing → Launched P → Type 0
Launches (Some order) before now (Up p) = Starts order before now
Launches None before now (Up p) = ⊥
Launches order before now NoStart = Refuses before now
Launches order before now NoRoom = Refuses before now

abbrev pub ends_after_launch : {P Q : Type 0} → ℕ → Launched Q → List (SlotEnd P) → List (SlotEnd P)
ends_after_launch k (Up p) ends = ends
ends_after_launch k NoStart ends = changed (with_outcome outcome.NoStart) k ends
ends_after_launch k NoRoom ends = changed (with_outcome outcome.NoMemory) k ends

abbrev pub started : {P : Type 0} → Launched P → ℕ
started (Up p) = 1
started NoStart = 0
started NoRoom = 0

-- the pipe that was handed out, if any
abbrev pub handed : {P : Type 0} → Launched P → Option P
handed (Up p) = Some p
handed NoStart = None
handed NoRoom = None

-- what is kept of a drained pipe, and of a stray one
abbrev pub is_short : DrainEnd → Bool
is_short drain.NoMemory = true
is_short _ = false

abbrev pub kept_of : {P : Type 0} → Reading P → Kept
kept_of d = record { bytes = d.bytes; pipe_faults = d.pipe_faults; short = is_short d.end; stray = None }

-- a reaped slot with what it keeps may end so
abbrev pub MaySettle : {P : Type 0} → (List ℕ → Outcome P → Type 0) → (won : Bool) → Option SlotState → Option (SlotEnd P) → Outcome P → Type 0
MaySettle answers won (Some Reaped) (Some end) o = MayEnd answers false won end.kept o
MaySettle answers won (Some ReapedLate) (Some end) o = MayEnd answers true won end.kept o
MaySettle answers won _ end o = ⊥

-- the state of a slot whose child was started and wasn't waited for
abbrev pub IsUp : Option SlotState → Type 0
IsUp (Some s) = is_up s ≡ true
IsUp None = ⊥

-- what a slot keeps, once it does
abbrev pub kept_at : {P : Type 0} → Option SlotState → Option (SlotEnd P) → Option Kept
kept_at (Some s) (Some end) = if is_kept s then Some end.kept else None
kept_at _ _ = None
