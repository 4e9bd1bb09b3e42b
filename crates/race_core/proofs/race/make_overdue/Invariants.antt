use Rattle.std.proofs.Common.{◌≡◌, length}
use Rattle.race_core.specs.Steps.{overdue}
use Rattle.race_core.proofs.Mapped.{mapped_to}
use Rattle.race_core.proofs.race.make_overdue.Given as goal

abbrev pub invariant-loop-at : goal.invariant-loop-at
invariant-loop-at l = (l.slots ≡ mapped_to overdue l.at l.initial.slots) × (l.at-end ≡ length l.initial.slots)
