use Rattle.std.proofs.Common.{ℕ, List}
use Rattle.std.specs.Prelude.{◌↔◌}
use Rattle.fact_minimise.specs.Progress.{IsSound}
use Rattle.fact_minimise.proofs.tests.minimised.Given as goal

abbrev pub invariant-loop-minimise : goal.invariant-loop-minimise
invariant-loop-minimise g l =
    IsSound (g.R.Replay.finds l.initial.replay) l.minimise × ((facts : List ℕ) → g.R.Replay.finds l.replay facts ↔ g.R.Replay.finds l.initial.replay facts)

abbrev pub decreases-loop-minimise : goal.decreases-loop-minimise
decreases-loop-minimise g l = l.minimise.left
