use Rattle.std.proofs.Common.{◌+◌, ◌*◌, ◌≤◌}
use Rattle.fo_cells.specs.Binds.{binds_of}
use Rattle.flat_subsume.proofs.Sending.{NoneBefore}
use Rattle.flat_subsume.proofs.covering.+covering.Given as goal

abbrev pub invariant-covers-loop-j : goal.invariant-covers-loop-j
invariant-covers-loop-j l = record {
  fewer : l.steps ≤ l.initial.steps;
  none : NoneBefore (binds_of l.binds) l.c l.k l.d l.j;
}

abbrev pub decreases-covers : goal.decreases-covers
decreases-covers l = 4 * l.steps.now + 3

abbrev pub decreases-covers_by : goal.decreases-covers_by
decreases-covers_by l = 4 * l.steps.now + 2

abbrev pub decreases-goes_on : goal.decreases-goes_on
decreases-goes_on l = 4 * l.steps.now + 1

abbrev pub decreases-binds_on : goal.decreases-binds_on
decreases-binds_on l = 4 * l.steps.now + 2
