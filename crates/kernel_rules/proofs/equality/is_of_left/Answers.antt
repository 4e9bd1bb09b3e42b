use Rattle.std.proofs.Common.{sym, subst}
use Rattle.kernel_rules.proofs.LooseIndexes.{Closed, left_closed}
use Rattle.kernel_rules.proofs.equality.is_of_left.Goals as goal

pub is_applied-requires : goal.is_applied-requires
is_applied-requires c = subst Closed (sym c.left.ensures) (left_closed c.args.e.now c.requires)
