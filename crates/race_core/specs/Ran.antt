-- What a history does on the launcher.
use Rattle.std.specs.Prelude.{ℕ, ◌≡◌, ◌+◌, ◌-◌, ◌^◌, ◌≤◌, min, if◌then◌else◌, List, [], ◌∷◌, ◌++◌, length, slice_get, All, Option, Some, None, is_none, option_map, unwrap_or}
use Rattle.std.specs.List.{filter_map}
use Rattle.race_core.specs.declared.race.Race.{Race}
use Rattle.race_core.specs.declared.slot.Order.{Order}
use Rattle.race_core.specs.declared.slot.SlotState.{SlotState}
use Rattle.race_core.specs.declared.slot.SlotState.TheVariants.{Running}
use Rattle.race_core.specs.declared.outcome.Verdict.TheVariants.{Proved}
use Rattle.race_core.specs.declared.event.Event.{Event}
use Rattle.race_core.specs.declared.event.Event.TheVariants.{NoStart, Reap, Settle, Expire}
use Rattle.race_core.specs.Steps.{step_of, fresh}
use Rattle.race_core.specs.Histories.{launched, expiries, id_of}
use Rattle.race_core.specs.Standings.{Standing}

-- the slot that an event reaps
abbrev pub reaped_by : Event → Option ℕ
reaped_by (Reap k) = Some k
reaped_by _ = None

-- the reaped slots, in the order of their reaps
abbrev pub reaped : List Event → List ℕ
reaped es = filter_map reaped_by es

-- the slot whose start an event says has failed
abbrev pub unstarted_by : Event → Option ℕ
unstarted_by (NoStart k) = Some k
unstarted_by _ = None

-- the slots whose starts failed
abbrev pub unstarted : List Event → List ℕ
unstarted es = filter_map unstarted_by es

-- the slots that run, by ascending number, where the first has this number
abbrev pub running_from : ℕ → List SlotState → List ℕ
running_from k [] = []
running_from k (Running ∷ ss) = k ∷ running_from (k + 1) ss
running_from k (s ∷ ss) = running_from (k + 1) ss

-- the slots of a race that run
abbrev pub running : Race → List ℕ
running r = running_from 0 r.slots

-- the slots that are killed at an event: those that run before it, at the winner's verdict and where the limit of time passes
abbrev pub killed_by : Race → Event → List ℕ
killed_by r (Settle k Proved) = if is_none r.winner then running r else []
killed_by r (Expire m) = running r
killed_by r _ = []

-- the slots that are killed by a history of this race, in its order
abbrev pub killed : Race → List Event → List ℕ
killed r [] = []
killed r (e ∷ es) = killed_by r e ++ unwrap_or (option_map (λ next. killed next es) (step_of r e)) []

-- the ids of these slots
abbrev pub ids_of : ℕ → List Event → List ℕ → List ℕ
ids_of first es ks = filter_map (id_of first es) ks

-- the orders of these slots
abbrev pub orders_of : List Order → List ℕ → List Order
orders_of orders ks = filter_map (slice_get orders) ks

-- where a limit of time is given, and only there, a race ends at a moment: the limit or more after what the clock had given
abbrev pub IsUntil : ℕ → Option ℕ → Option ℕ → Type 0
IsUntil last None until = until ≡ None
IsUntil last (Some limit) until = (u : ℕ) × (until ≡ Some u) × (last + limit ≤ u)

-- a launcher stood so before a race with these orders and this limit of time, and stands so after these events of it
pub record Ran (before now : Standing) (orders : List Order) (limit until : Option ℕ) (es : List Event) : Type 0 where
  -- it made one start for each launch, and no other
  pub starts : now.starts ≡ before.starts + length (launched es)
  -- with the orders of the launched slots, where it tells
  pub started_with : now.orders ≡ option_map (λ earlier. earlier ++ orders_of orders (launched es)) before.orders
  -- it waited for the reaped slots, in the order of their reaps
  pub waits : now.waits ≡ before.waits ++ ids_of before.starts es (reaped es)
  -- it killed the slots that ran at the winner's verdict and where the limit of time passed
  pub kills : now.kills ≡ before.kills ++ ids_of before.starts es (killed (fresh (length orders) until) es)
  -- it failed at least once for each start that failed; a count at the end of its type counts as risen
  pub faults : min (before.faults + length (unstarted es)) (2 ^ 64 - 1) ≤ now.faults
  -- its clock never went back, and has given each moment at which the limit of time passed, or a later one
  pub last : before.last ≤ now.last
  pub moments : All (λ m. m ≤ now.last) (expiries es)
  -- the race ends at no moment of its own
  pub ends : IsUntil before.last limit until
