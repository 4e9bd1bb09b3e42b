use Rattle.std.proofs.Common.{◌+◌, ◌*◌, length}
use Rattle.cover_marks.proofs.marks.+flat_marking.Given as goal

abbrev pub decreases-of_cells : goal.decreases-of_cells
decreases-of_cells l = 2 * length l.cells.now

abbrev pub decreases-of_row : goal.decreases-of_row
decreases-of_row l = 2 * length l.cells.now + 1
