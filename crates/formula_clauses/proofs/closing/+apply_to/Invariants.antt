use Rattle.std.proofs.Common.{length}
use Rattle.formula_clauses.proofs.closing.+apply_to.Given as goal

abbrev pub decreases-apply_to : goal.decreases-apply_to
decreases-apply_to l = length l.vs.now
