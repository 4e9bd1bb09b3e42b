-- When the watch over the limit of time is over.
use Rattle.std.specs.Prelude.{Bool, true, false, not, ◌&&◌}
use Rattle.std.specs.List.{list_any}
use Rattle.race_core.specs.declared.race.Race.{Race}
use Rattle.race_core.specs.declared.slot.SlotState.{SlotState}
use Rattle.race_core.specs.declared.slot.SlotState.TheVariants.{Waiting, Running}
use Rattle.race_core.specs.Steps.{is_open}

-- the slot isn't started, or runs
abbrev pub is_live : SlotState → Bool
is_live Waiting = true
is_live Running = true
is_live _ = false

-- a slot has won, the limit of time has passed, or no slot waits or runs
abbrev pub is_over : Race → Bool
is_over r = not (is_open r && list_any is_live r.slots)
