use Rattle.kernel_rules.proofs.LooseIndexes.{right_closed}
use Rattle.kernel_rules.proofs.equality.contraction.Goals as goal

pub contracted-requires : goal.contracted-requires
contracted-requires c = right_closed c.args.t.now c.requires
