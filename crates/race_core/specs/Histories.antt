-- What a history tells: of each slot, of the winner, of the limit of time, of the ids of the children.
use Rattle.std.specs.Prelude.{ℕ, ◌≡◌, ◌==◌, ◌⊎◌, Bool, true, false, List, [], ◌∷◌, ◌++◌, filter, Option, Some, None}
use Rattle.std.specs.Option.{option_or}
use Rattle.std.specs.List.{filter_map, list_any, position_from}
use Rattle.race_core.specs.declared.outcome.Verdict.{Verdict}
use Rattle.race_core.specs.declared.outcome.Verdict.TheVariants as verdict
use Rattle.race_core.specs.declared.slot.SlotState.{SlotState}
use Rattle.race_core.specs.declared.slot.SlotState.TheVariants.{Waiting, Running, Overdue, Reaped, ReapedLate, Settled}
use Rattle.race_core.specs.declared.event.Event.{Event}
use Rattle.race_core.specs.declared.event.Event.TheVariants.{Launch, NoStart, NoRoom, Reap, Settle, Skip, Expire}

-- whether an event is one of this slot
abbrev pub is_of : ℕ → Event → Bool
is_of k (Launch j) = j == k
is_of k (NoStart j) = j == k
is_of k (NoRoom j) = j == k
is_of k (Reap j) = j == k
is_of k (Settle j v) = j == k
is_of k (Skip j) = j == k
is_of k (Expire m) = false

-- the events of a slot, in their order
abbrev pub events_of : ℕ → List Event → List Event
events_of k es = filter (is_of k) es

-- the whole way of a slot: it is launched, reaped and settled, in this order, or it ends by one event alone
abbrev pub IsPassage : ℕ → List Event → Type 0
IsPassage k es =
    ((v : Verdict) × (es ≡ Launch k ∷ Reap k ∷ Settle k v ∷ [])) ⊎ ((es ≡ NoStart k ∷ []) ⊎ ((es ≡ NoRoom k ∷ []) ⊎ (es ≡ Skip k ∷ [])))

-- a slot has passed its states once
abbrev pub PassedOnce : List Event → ℕ → Type 0
PassedOnce es k = IsPassage k (events_of k es)

-- a slot has passed a beginning of its way
abbrev pub PassesOnce : List Event → ℕ → Type 0
PassesOnce es k = (rest : List Event) × IsPassage k (events_of k es ++ rest)

-- the events of a slot that is in this state
abbrev pub HasPassed : ℕ → SlotState → List Event → Type 0
HasPassed k Waiting es = es ≡ []
HasPassed k Running es = es ≡ Launch k ∷ []
HasPassed k Overdue es = es ≡ Launch k ∷ []
HasPassed k Reaped es = es ≡ Launch k ∷ Reap k ∷ []
HasPassed k ReapedLate es = es ≡ Launch k ∷ Reap k ∷ []
HasPassed k (Settled v) es =
    (es ≡ Launch k ∷ Reap k ∷ Settle k v ∷ []) ⊎ (((es ≡ NoStart k ∷ []) × (v ≡ verdict.NoStart)) ⊎ (((es ≡ NoRoom k ∷ []) × (v ≡ verdict.NoMemory)) ⊎ ((es ≡ Skip k ∷ []) × ((v ≡ verdict.Cancelled) ⊎ (v ≡ verdict.TimedOut)))))

-- the slot whose proof an event accepts
abbrev pub proved_by : Event → Option ℕ
proved_by (Settle k verdict.Proved) = Some k
proved_by _ = None

-- the slot of the first accepted proof
abbrev pub first_proved : List Event → Option ℕ
first_proved [] = None
first_proved (e ∷ es) = option_or (proved_by e) (first_proved es)

-- the moment of an Expire
abbrev pub moment_of : Event → Option ℕ
moment_of (Expire m) = Some m
moment_of _ = None

-- the moments at which the limit of time has passed
abbrev pub expiries : List Event → List ℕ
expiries es = filter_map moment_of es

-- whether an event is an Expire
abbrev pub is_expiry : Event → Bool
is_expiry (Expire m) = true
is_expiry _ = false

-- whether the limit of time has passed at one of these events
abbrev pub has_expired : List Event → Bool
has_expired es = list_any is_expiry es

-- a slot was launched, and whether the limit of time has passed since
pub record WasLaunched (k : ℕ) (late : Bool) (es : List Event) : Type 0 where
  pub before : List Event
  pub since : List Event
  pub is : es ≡ before ++ Launch k ∷ since
  pub late_is : has_expired since ≡ late

-- a slot was launched and then reaped, and whether the limit of time passed between the two
pub record WasReaped (k : ℕ) (late : Bool) (es : List Event) : Type 0 where
  pub before : List Event
  pub between : List Event
  pub behind : List Event
  pub is : es ≡ (before ++ Launch k ∷ between) ++ Reap k ∷ behind
  pub late_is : has_expired between ≡ late

-- the slot that an event launches
abbrev pub launched_by : Event → Option ℕ
launched_by (Launch k) = Some k
launched_by _ = None

-- the launched slots, in the order of their launches
abbrev pub launched : List Event → List ℕ
launched es = filter_map launched_by es

-- the id of a launched slot, where ids are given from this one on, in the order of the launches
abbrev pub id_of : ℕ → List Event → ℕ → Option ℕ
id_of first es k = position_from (λ j. j == k) first (launched es)
