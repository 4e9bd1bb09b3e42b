use Rattle.std.proofs.Common.{length}
use Rattle.formula_clauses.proofs.closing.+closed_ty.Given as goal

abbrev pub decreases-closed_ty : goal.decreases-closed_ty
decreases-closed_ty l = length l.vs.now
