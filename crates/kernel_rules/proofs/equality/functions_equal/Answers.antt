use Rattle.std.proofs.Common.{sym, subst}
use Rattle.kernel_rules.proofs.LooseIndexes.{Closed, right_closed}
use Rattle.kernel_rules.proofs.equality.functions_equal.Goals as goal

pub lambda_over-requires : goal.lambda_over-requires
lambda_over-requires c = subst Closed (sym c.right.ensures) (right_closed c.args.e.now c.requires)
