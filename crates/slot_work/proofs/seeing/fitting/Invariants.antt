use Rattle.std.proofs.Common.{◌≡◌, ◌++◌, drop}
use Rattle.theory_reader.specs.Seen.{seen}
use Rattle.slot_work.specs.Visible.{places_from, fact_fits, visible}
use Rattle.slot_work.proofs.seeing.fitting.Given as goal

abbrev pub invariant-loop-i : goal.invariant-loop-i
invariant-loop-i l = l.out ++ places_from l.i (fact_fits l.theory) (drop l.i (seen l.theory l.goal)) ≡ visible l.theory l.goal
