use Rattle.std.proofs.Common.{sym, subst}
use Rattle.kernel_rules.proofs.LooseIndexes.{Closed, right_closed}
use Rattle.kernel_rules.proofs.equality.subst.Goals as goal

pub applied_to-requires : goal.applied_to-requires
applied_to-requires c = subst Closed (sym c.right.ensures) (right_closed c.args.p.now.concl c.requires)
