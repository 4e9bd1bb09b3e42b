use Rattle.std.proofs.Common.{ℕ, List}
use Rattle.std.specs.Prelude.{◌↔◌}
use Rattle.fact_minimise.specs.Progress.{IsSound}
use Rattle.fact_minimise.specs.Sublists.{IsSublist}
use Rattle.slot_work.proofs.searches.minimised.Given as goal

abbrev pub invariant-loop-minimise : goal.invariant-loop-minimise
invariant-loop-minimise g l = record {
  sound : IsSound (g.R.Replay.finds l.initial.replay) l.minimise;
  same : (facts : List ℕ) → g.R.Replay.finds l.replay facts ↔ g.R.Replay.finds l.initial.replay facts;
  sublist : IsSublist l.minimise.kept l.initial.minimise.kept;
}

abbrev pub decreases-loop-minimise : goal.decreases-loop-minimise
decreases-loop-minimise g l = l.minimise.left
