use Rattle.std.proofs.Common.{length}
use Rattle.hol_clausify.proofs.lifting.+put_in_negation.Given as goal

abbrev pub decreases-put_in_negation : goal.decreases-put_in_negation
decreases-put_in_negation l = length l.paths.now
