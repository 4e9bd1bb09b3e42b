use Rattle.std.proofs.Common.{sym, subst}
use Rattle.kernel_rules.proofs.LooseIndexes.{Closed, right_closed}
use Rattle.kernel_rules.proofs.quantifiers.choose.Goals as goal

pub at_choice-requires : goal.at_choice-requires
at_choice-requires c = subst Closed (sym c.right.ensures) (right_closed c.args.p.now.concl c.requires)
