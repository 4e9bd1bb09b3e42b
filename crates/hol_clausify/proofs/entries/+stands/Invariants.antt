use Rattle.std.proofs.Common.{◌+◌, ◌*◌, length}
use Rattle.hol_clausify.proofs.entries.+stands.Given as goal

abbrev pub decreases-equations_stand : goal.decreases-equations_stand
decreases-equations_stand l = 2 * length l.more.now

abbrev pub decreases-with_others : goal.decreases-with_others
decreases-with_others l = 2 * length l.rest.now + 1
