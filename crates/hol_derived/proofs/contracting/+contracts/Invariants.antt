use Rattle.std.proofs.Common.{◌+◌, ◌*◌, length}
use Rattle.hol_derived.proofs.contracting.+contracts.Given as goal

abbrev pub decreases-contraction : goal.decreases-contraction
decreases-contraction l = 4 * length l.path.now

abbrev pub decreases-in_opened : goal.decreases-in_opened
decreases-in_opened l = 4 * length l.path.now + 1

abbrev pub decreases-under : goal.decreases-under
decreases-under l = 4 * length l.rest.now + 2

abbrev pub decreases-across : goal.decreases-across
decreases-across l = 4 * length l.rest.now + 2

abbrev pub decreases-below : goal.decreases-below
decreases-below l = 4 * length l.rest.now + 3
