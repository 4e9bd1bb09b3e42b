use Rattle.std.proofs.Common.{length}
use Rattle.formula_clauses.proofs.closing.+under_lambdas.Given as goal

abbrev pub decreases-under_lambdas : goal.decreases-under_lambdas
decreases-under_lambdas l = length l.vs.now
