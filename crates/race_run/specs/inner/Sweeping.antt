-- What a sweep does to the slots, one after another.
use Rattle.std.specs.Prelude.{ℕ, ◌≡◌, List, Option, Some, slice_set}
use Rattle.race_core.specs.declared.slot.SlotState.{SlotState}
use Rattle.race_core.specs.declared.slot.SlotState.TheVariants.{Reaped, ReapedLate, Settled}
use Rattle.race_core.specs.declared.outcome.Verdict.{Verdict}

-- the child of the slot was waited for, and it isn't settled
abbrev pub IsReapedAt : Option SlotState → Type 0
IsReapedAt (Some Reaped) = Unit {0}
IsReapedAt (Some ReapedLate) = Unit {0}
IsReapedAt _ = ⊥

-- the slot is settled
abbrev pub IsSettledAt : Option SlotState → Type 0
IsSettledAt (Some (Settled v)) = Unit {0}
IsSettledAt _ = ⊥

-- one slot was settled, and the others stay
abbrev pub SettlesOne : ℕ → List SlotState → List SlotState → Type 0
SettlesOne k before now = (v : Verdict) × (now ≡ slice_set before k (Settled v))
