use Rattle.std.proofs.Common.{length}
use Rattle.formula_clauses.proofs.closing.+place.Given as goal

abbrev pub decreases-place : goal.decreases-place
decreases-place l = length l.vs.now
