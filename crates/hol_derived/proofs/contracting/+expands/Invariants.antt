use Rattle.std.proofs.Common.{◌+◌, ◌*◌, length}
use Rattle.hol_derived.proofs.contracting.+expands.Given as goal

abbrev pub decreases-expanded : goal.decreases-expanded
decreases-expanded l = 3 * length l.paths.now

abbrev pub decreases-expanded_own : goal.decreases-expanded_own
decreases-expanded_own l = 3 * length l.paths.now + 1

abbrev pub decreases-expanded_by : goal.decreases-expanded_by
decreases-expanded_by l = 3 * length l.rest.now + 2
