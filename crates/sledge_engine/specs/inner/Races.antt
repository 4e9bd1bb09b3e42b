-- A launcher and a race as the code holds them.
use Rattle.std.specs.Prelude.{ℕ, List, Option}
use Rattle.hol_kernel.specs.declared.proven.Proven.{Proven}
use Rattle.race_core.specs.declared.event.Event.{Event}
use Rattle.race_core.specs.declared.slot.SlotEnd.{SlotEnd}
use Rattle.race_core.specs.Standings.{Standing}
use Rattle.race_outside.specs.Pipes.{Told}
use Rattle.sledge_engine.specs.declared.finished.Finished.{Finished}
use Rattle.sledge_engine.specs.Headline.{Launching}

abbrev pub launching : (ℕ → Told) → Standing → Standing → Launching
launching children before now = record { children = children; before = before; now = now }

abbrev pub finished_of : List Event → List (SlotEnd Proven) → Option ℕ → Option ℕ → Finished
finished_of events slots winner until = record { events = events; slots = slots; winner = winner; until = until }
