-- What a slot keeps of its child, and how it may end.
use Rattle.std.specs.Prelude.{ℕ, ◌≡◌, ◌≢◌, ◌+◌, ◌<◌, ◌≤◌, ◌⊎◌, ◌==◌, nat_lt, Bool, true, false, if◌then◌else◌, IsTrue, List, [], ◌∷◌, ◌++◌, length, slice_get, Option, Some, None, is_some}
use Rattle.race_core.specs.declared.race.Race.{Race}
use Rattle.race_core.specs.declared.slot.Order.{Order}
use Rattle.race_core.specs.declared.slot.Kept.{Kept}
use Rattle.race_core.specs.declared.slot.SlotEnd.{SlotEnd}
use Rattle.race_core.specs.declared.slot.SlotState.{SlotState}
use Rattle.race_core.specs.declared.slot.SlotState.TheVariants.{Running, Overdue}
use Rattle.race_core.specs.declared.outcome.Outcome.{Outcome}
use Rattle.race_core.specs.declared.outcome.Outcome.TheVariants as outcome
use Rattle.race_core.specs.declared.outcome.Verdict.{Verdict}
use Rattle.race_core.specs.declared.outcome.Verdict.TheVariants as verdict
use Rattle.race_core.specs.declared.event.Event.{Event}
use Rattle.race_core.specs.declared.event.Event.TheVariants.{NoStart, NoRoom, Reap, Settle, Skip}
use Rattle.race_core.specs.Steps.{after}
use Rattle.race_core.specs.Verdicts.{verdict_of}
use Rattle.race_core.specs.Histories.{WasLaunched, first_proved, id_of}
use Rattle.race_core.specs.Standings.{Standing}
use Rattle.race_outside.specs.Pipes.{Told}
use Rattle.race_board.specs.Drains.{most_bytes, AreBegun, AreFirst}

-- the terms of a race: its job, its orders, its limit of time, what is told of its children, and how its launcher stood before it
pub record Terms : Type 0 where
  pub key : List ℕ
  pub orders : List Order
  pub limit : Option ℕ
  pub children : ℕ → Told
  pub first : Standing

-- a slot whose child was started and wasn't waited for
abbrev pub is_up : SlotState → Bool
is_up Running = true
is_up Overdue = true
is_up _ = false

-- where an event stands in a history
pub record Stands (e : Event) (es : List Event) : Type 0 where
  pub before : List Event
  pub behind : List Event
  pub is : es ≡ before ++ e ∷ behind

-- nothing is kept
abbrev pub nothing : Kept
nothing = record { bytes = []; pipe_faults = 0; short = false; stray = None }

-- nothing is kept but the id of another pipe
abbrev pub only_stray : ℕ → Kept
only_stray i = record { bytes = []; pipe_faults = 0; short = false; stray = Some i }

-- what is kept of a slot's own pipe, where this is told of its child
pub record IsOwn (told : Told) (kept : Kept) : Type 0 where
  pub unlost : kept.stray ≡ None
  pub most : length kept.bytes ≤ most_bytes
  pub begun : AreBegun told.whole kept.bytes
  pub all : kept.short ≡ false → kept.pipe_faults ≡ 0 → AreFirst most_bytes told.whole kept.bytes
  pub sound : IsTrue told.sound → kept.pipe_faults ≡ 0

-- an id of the race: of the first so many from its beginning
abbrev pub IsOfRace : Terms → ℕ → Type 0
IsOfRace terms i = (terms.first.starts ≤ i) × (i < terms.first.starts + length terms.orders)

-- an id that no slot has whose child was started and wasn't waited for
abbrev pub IsFree : ℕ → List Event → Race → ℕ → Type 0
IsFree first es r i = (k : ℕ) (s : SlotState) → slice_get r.slots k ≡ Some s → is_up s ≡ true → id_of first es k ≢ Some i

-- what a slot keeps that is reaped behind these events: what was read of its own pipe, or the id of a stray one
abbrev pub Keeps : Terms → Option ℕ → List Event → ℕ → Kept → Type 0
Keeps terms until before k kept =
    ((i : ℕ) × (id_of terms.first.starts before k ≡ Some i) × IsOwn (terms.children i) kept)
    ⊎ ((i : ℕ) × (kept ≡ only_stray i) × IsOfRace terms i × ((r : Race) → after (length terms.orders) until before ≡ Some r → IsFree terms.first.starts before r i))

-- a slot was launched and reaped, and keeps this; and whether the limit of time passed between the two
abbrev pub IsReaped : Terms → Option ℕ → ℕ → Bool → Kept → List Event → Type 0
IsReaped terms until k late kept es =
    (reap : Stands (Reap k) es) × WasLaunched k late reap.before × Keeps terms until reap.before k kept

-- the end that is called for by what was kept: the first that applies
abbrev pub CallsFor : {P : Type 0} → (lost : Option ℕ) → (failed short long : Bool) → (Outcome P → Type 0) → Outcome P → Type 0
CallsFor (Some i) failed short long answers o = o ≡ outcome.Lost i
CallsFor None true short long answers o = o ≡ outcome.ReadFault
CallsFor None false true long answers o = ⊥
CallsFor None false false true answers o = o ≡ outcome.TooLong
CallsFor None false false false answers o = answers o

abbrev pub IsCalledFor : {P : Type 0} → (List ℕ → Outcome P → Type 0) → Kept → Outcome P → Type 0
IsCalledFor answers kept o = CallsFor kept.stray (nat_lt 0 kept.pipe_faults) kept.short (length kept.bytes == most_bytes) (answers kept.bytes) o

-- how a slot may end that was reaped late or in time, behind a win or not
abbrev pub MayEnd : {P : Type 0} → (List ℕ → Outcome P → Type 0) → (late won : Bool) → Kept → Outcome P → Type 0
MayEnd answers late won kept outcome.NoMemory = kept.stray ≡ None
MayEnd answers late won kept outcome.Cancelled = won ≡ true
MayEnd answers true won kept o = o ≡ outcome.TimedOut
MayEnd answers false won kept o = IsCalledFor answers kept o

-- how a slot ends that isn't started any more
abbrev pub skipped_end : {P : Type 0} → Bool → Outcome P
skipped_end won = if won then outcome.Cancelled else outcome.TimedOut

-- a settled slot's end is right, by the slot's events
abbrev pub Right : {P : Type 0} → (List ℕ → Outcome P → Type 0) → Terms → Option ℕ → ℕ → Kept → Outcome P → List Event → Type 0
Right answers terms until k kept o es =
    (Stands (NoStart k) es × (kept ≡ nothing) × (o ≡ outcome.NoStart))
    ⊎ ((Stands (NoRoom k) es × (kept ≡ nothing) × (o ≡ outcome.NoMemory))
    ⊎ (((skip : Stands (Skip k) es) × (kept ≡ nothing) × (o ≡ skipped_end (is_some (first_proved skip.before))))
    ⊎ ((settle : Stands (Settle k (verdict_of o)) es) × (late : Bool) × IsReaped terms until k late kept settle.before × MayEnd answers late (is_some (first_proved settle.before)) kept o)))

-- each of these ends is right
abbrev pub AreRight : {P : Type 0} → (List ℕ → Outcome P → Type 0) → Terms → Option ℕ → List (SlotEnd P) → List Event → Type 0
AreRight {P} answers terms until ends es = (k : ℕ) (end : SlotEnd P) → slice_get ends k ≡ Some end → Right answers terms until k end.kept end.outcome es

-- a verdict that is for what a child printed
abbrev pub is_read : Verdict → Bool
is_read verdict.NoStart = false
is_read verdict.Lost = false
is_read verdict.TimedOut = false
is_read verdict.Cancelled = false
is_read verdict.NoMemory = false
is_read _ = true
