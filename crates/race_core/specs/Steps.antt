-- The legal steps of a race.
use Rattle.std.specs.Prelude.{ℕ, Bool, true, false, not, ◌&&◌, if◌then◌else◌, nat_le, List, [], ◌∷◌, map, Option, Some, None, is_none, is_some, IsSome, option_and_then, slice_get, slice_set, replicate}
use Rattle.race_core.specs.declared.race.Race.{Race}
use Rattle.race_core.specs.declared.outcome.Verdict.{Verdict}
use Rattle.race_core.specs.declared.outcome.Verdict.TheVariants as verdict
use Rattle.race_core.specs.declared.slot.SlotState.{SlotState}
use Rattle.race_core.specs.declared.slot.SlotState.TheVariants.{Waiting, Running, Overdue, Reaped, ReapedLate, Settled}
use Rattle.race_core.specs.declared.event.Event.{Event}
use Rattle.race_core.specs.declared.event.Event.TheVariants.{Launch, NoStart, NoRoom, Reap, Settle, Skip, Expire}

-- slots may still be started: there is no winner, and the race isn't late
abbrev pub is_open : Race → Bool
is_open r = is_none r.winner && not r.late

-- the race with one slot in another state
abbrev pub with_slot : Race → ℕ → SlotState → Race
with_slot r k s = record { slots = slice_set r.slots k s; winner = r.winner; until = r.until; late = r.late }

-- a waiting slot is started, or settled since it couldn't be
abbrev pub started : Race → ℕ → SlotState → Option SlotState → Option Race
started r k s (Some Waiting) = if is_open r then Some (with_slot r k s) else None
started r k s _ = None

-- a slot's child was waited for
abbrev pub reaped : Race → ℕ → Option SlotState → Option Race
reaped r k (Some Running) = Some (with_slot r k Reaped)
reaped r k (Some Overdue) = Some (with_slot r k ReapedLate)
reaped r k _ = None

-- how a slot may end that was reaped in time: with anything but NoStart and TimedOut, and Cancelled only behind a win
abbrev pub may_settle : Race → Verdict → Bool
may_settle r verdict.NoStart = false
may_settle r verdict.TimedOut = false
may_settle r verdict.Cancelled = is_some r.winner
may_settle r _ = true

-- how a slot may end that was reaped late: with TimedOut or NoMemory, or with Cancelled behind a win
abbrev pub may_settle_late : Race → Verdict → Bool
may_settle_late r verdict.TimedOut = true
may_settle_late r verdict.NoMemory = true
may_settle_late r verdict.Cancelled = is_some r.winner
may_settle_late r _ = false

-- the first accepted proof makes its slot the winner
abbrev pub winner_after : Option ℕ → ℕ → Verdict → Option ℕ
winner_after None k verdict.Proved = Some k
winner_after w k _ = w

-- the race with one slot settled
abbrev pub with_verdict : Race → ℕ → Verdict → Race
with_verdict r k v = record { slots = slice_set r.slots k (Settled v); winner = winner_after r.winner k v; until = r.until; late = r.late }

-- a reaped slot ends
abbrev pub settled : Race → ℕ → Verdict → Option SlotState → Option Race
settled r k v (Some Reaped) = if may_settle r v then Some (with_verdict r k v) else None
settled r k v (Some ReapedLate) = if may_settle_late r v then Some (with_verdict r k v) else None
settled r k v _ = None

-- a waiting slot ends without a start: behind a win, or in a late race without one
abbrev pub skipped : Race → ℕ → Option SlotState → Option Race
skipped r k (Some Waiting) =
    if is_some r.winner then Some (with_slot r k (Settled verdict.Cancelled)) else if r.late then Some (with_slot r k (Settled verdict.TimedOut)) else None
skipped r k _ = None

-- a running slot becomes overdue
abbrev pub overdue : SlotState → SlotState
overdue Running = Overdue
overdue s = s

-- there is a limit of time, and it has passed at this moment
abbrev pub is_due : Option ℕ → ℕ → Bool
is_due None m = false
is_due (Some u) m = nat_le u m

-- the race becomes late, and its running slots overdue
abbrev pub with_lateness : Race → Race
with_lateness r = record { slots = map overdue r.slots; winner = r.winner; until = r.until; late = true }

-- the limit of time passes, once and before any win
abbrev pub expired : Race → ℕ → Option Race
expired r m = if is_open r && is_due r.until m then Some (with_lateness r) else None

-- the race after an event, if that event is legal
abbrev pub step_of : Race → Event → Option Race
step_of r (Launch k) = started r k Running (slice_get r.slots k)
step_of r (NoStart k) = started r k (Settled verdict.NoStart) (slice_get r.slots k)
step_of r (NoRoom k) = started r k (Settled verdict.NoMemory) (slice_get r.slots k)
step_of r (Reap k) = reaped r k (slice_get r.slots k)
step_of r (Settle k v) = settled r k v (slice_get r.slots k)
step_of r (Skip k) = skipped r k (slice_get r.slots k)
step_of r (Expire m) = expired r m

-- n waiting slots
abbrev pub fresh : ℕ → Option ℕ → Race
fresh n until = record { slots = replicate n Waiting; winner = None; until = until; late = false }

-- the race after all these events, if each is legal where it stands
abbrev pub runs : Race → List Event → Option Race
runs r [] = Some r
runs r (e ∷ es) = option_and_then (λ next. runs next es) (step_of r e)

-- the race that a history has made of n waiting slots, if the history is legal
abbrev pub after : ℕ → Option ℕ → List Event → Option Race
after n until es = runs (fresh n until) es

-- from n waiting slots every event is legal
abbrev pub IsLegal : ℕ → Option ℕ → List Event → Type 0
IsLegal n until es = IsSome (after n until es)
