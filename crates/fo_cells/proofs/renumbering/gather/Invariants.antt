use Rattle.std.proofs.Common.{◌≡◌, ◌==◌, [], take}
use Rattle.fo_terms.specs.inner.Gathered.{all_added}
use Rattle.fo_cells.specs.inner.Seen.{cell_variables}
use Rattle.fo_cells.proofs.renumbering.gather.Given as goal

abbrev pub invariant-loop-cell : goal.invariant-loop-cell
invariant-loop-cell l = l.noted.items ≡ all_added ◌==◌ [] (cell_variables (take l.cell-index l.cells))
