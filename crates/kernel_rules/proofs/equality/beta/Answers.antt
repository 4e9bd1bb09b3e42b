use Rattle.std.proofs.Common.{sym, ◌∙◌}
use Rattle.kernel_rules.proofs.LooseIndexes.{own_closed}
use Rattle.kernel_rules.proofs.equality.beta.Goals as goal

pub contraction-requires : goal.contraction-requires
contraction-requires c = own_closed c.args.sig.now c.args.t.now c.in-Some.ty (sym c.in_ok-ty.ensures ∙ c.in-Some.is)
