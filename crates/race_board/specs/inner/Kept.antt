-- What the type of a board keeps.
use Rattle.std.specs.Prelude.{ℕ, ◌≡◌, ◌+◌, ◌<◌, ◌≤◌, Bool, true, false, List, [], ◌∷◌, map, length, sum_by, slice_get, Option, Some, None, option_and_then}
use Rattle.race_core.specs.declared.race.Race.{Race}
use Rattle.race_core.specs.declared.slot.SlotEnd.{SlotEnd}
use Rattle.race_core.specs.declared.slot.SlotState.{SlotState}
use Rattle.race_core.specs.declared.slot.SlotState.TheVariants.{Waiting, Running, Overdue, Reaped, ReapedLate, Settled}
use Rattle.race_core.specs.declared.outcome.Outcome.{Outcome}
use Rattle.race_core.specs.declared.event.Event.{Event}
use Rattle.race_core.specs.Steps.{after}
use Rattle.race_core.specs.Verdicts.{verdict_of}
use Rattle.race_core.specs.Histories.{id_of}
use Rattle.race_core.specs.Standings.{Standing, is_listed}
use Rattle.race_core.specs.Ran.{Ran}
use Rattle.race_board.specs.Ends.{Terms, is_up, nothing, IsReaped, Right}
use Rattle.race_board.specs.Boards.{View, up_of}

-- the id at a place of a list of ids
abbrev pub id_in : List (Option ℕ) → ℕ → Option ℕ
id_in ids k = option_and_then (λ id. id) (slice_get ids k)

-- what is known of a slot's end by its state
abbrev pub IsEnd : {P : Type 0} → (List ℕ → Outcome P → Type 0) → Terms → Option ℕ → ℕ → SlotState → SlotEnd P → List Event → Type 0
IsEnd answers terms until k Waiting end es = end.kept ≡ nothing
IsEnd answers terms until k Running end es = end.kept ≡ nothing
IsEnd answers terms until k Overdue end es = end.kept ≡ nothing
IsEnd answers terms until k Reaped end es = IsReaped terms until k false end.kept es
IsEnd answers terms until k ReapedLate end es = IsReaped terms until k true end.kept es
IsEnd answers terms until k (Settled v) end es = (v ≡ verdict_of end.outcome) × Right answers terms until k end.kept end.outcome es

-- the children that can still be waited for weren't, and those that can still be killed weren't
pub record IsSafe (ids : ℕ → Option ℕ) (r : Race) (now : Standing) : Type 0 where
  pub started : (k i : ℕ) → ids k ≡ Some i → i < now.starts
  pub unwaited : (k i : ℕ) (s : SlotState) → slice_get r.slots k ≡ Some s → is_up s ≡ true → ids k ≡ Some i → is_listed i now.waits ≡ false
  pub unkilled : (k i : ℕ) → r.winner ≡ None → slice_get r.slots k ≡ Some Running → ids k ≡ Some i → is_listed i now.kills ≡ false

-- how many events a slot can still have
abbrev pub to_come : SlotState → ℕ
to_come Waiting = 3
to_come Running = 2
to_come Overdue = 2
to_come Reaped = 1
to_come ReapedLate = 1
to_come (Settled v) = 0

-- how often the limit of time can still pass
abbrev pub to_pass : Option ℕ → Bool → ℕ
to_pass None late = 0
to_pass (Some u) true = 0
to_pass (Some u) false = 1

pub record IsBoard {P : Type 0} (answers : List ℕ → Outcome P → Type 0) (terms : Terms) (v : View P) (ids : List (Option ℕ)) (total capacity : ℕ) : Type 0 where
  pub some : 0 < length terms.orders
  pub few : length terms.orders ≤ 64
  pub legal : after (length terms.orders) v.race.until v.events ≡ Some v.race
  pub ran : Ran terms.first v.launcher terms.orders terms.limit v.race.until v.events
  pub orders : map (λ end. end.order) v.ends ≡ terms.orders
  pub ends : (k : ℕ) (s : SlotState) (end : SlotEnd P) → slice_get v.race.slots k ≡ Some s → slice_get v.ends k ≡ Some end → IsEnd answers terms v.race.until k s end v.events
  pub each : length ids ≡ length terms.orders
  pub known : (k : ℕ) → id_in ids k ≡ id_of terms.first.starts v.events k
  pub safe : IsSafe (id_of terms.first.starts v.events) v.race v.launcher
  pub counted : total ≡ up_of v.race.slots
  pub room : length v.events + sum_by to_come v.race.slots + to_pass v.race.until v.race.late ≤ capacity

-- the children of the slots that run can be killed, one after another
pub record AreKillable (slots : List SlotState) (ids : List (Option ℕ)) (now : Standing) : Type 0 where
  pub distinct : (j k i : ℕ) → id_in ids j ≡ Some i → id_in ids k ≡ Some i → j ≡ k
  pub started : (k i : ℕ) → id_in ids k ≡ Some i → i < now.starts
  pub unkilled : (k i : ℕ) → slice_get slots k ≡ Some Running → id_in ids k ≡ Some i → is_listed i now.kills ≡ false
  pub unwaited : (k i : ℕ) → slice_get slots k ≡ Some Running → id_in ids k ≡ Some i → is_listed i now.waits ≡ false

-- the kill of a slot: of the child of one that runs
abbrev pub killed_one : SlotState → Option ℕ → List ℕ
killed_one Running (Some id) = id ∷ []
killed_one Running None = []
killed_one _ id = []
