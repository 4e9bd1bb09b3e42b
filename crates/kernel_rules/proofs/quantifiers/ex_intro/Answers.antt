use Rattle.std.proofs.Common.{sym, ◌∙◌}
use Rattle.kernel_rules.proofs.LooseIndexes.{own_closed}
use Rattle.kernel_rules.proofs.quantifiers.ex_intro.Goals as goal

pub by_witness-requires : goal.by_witness-requires
by_witness-requires c = own_closed c.args.sig.now c.args.t.now c.in-Some.ty (sym c.in_ok-ty.ensures ∙ c.in-Some.is)
