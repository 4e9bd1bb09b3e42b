use Rattle.std.proofs.Common.{◌≡◌, drop}
use Rattle.race_core.specs.Steps.{runs, after}
use Rattle.race_core.proofs.race.Race.replay_timed.Given as goal

abbrev pub invariant-loop-event : goal.invariant-loop-event
invariant-loop-event l = runs l.race (drop l.event-index l.fn.events) ≡ after l.fn.slots l.fn.until l.fn.events
