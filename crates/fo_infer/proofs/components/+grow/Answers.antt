use Rattle.std.proofs.Common.{subst}
use Rattle.fo_infer.specs.inner.Components.{literals, Splits}
use Rattle.fo_infer.proofs.Parting.{splits_then}
use Rattle.fo_infer.proofs.components.+grow.Goals as goal

pub returns-clause-splits : goal.returns-clause-splits
returns-clause-splits t c =
    splits_then (literals c.args.part.now) (literals c.args.rest.now) (literals c.pass.new.part) (literals c.in_ok-others.others) (literals c.grow.new.part) (literals c.in_ok-more.more)
    c.in_ok-others.ensures.splits (subst (λ r. Splits (literals c.pass.new.part) (literals r) (literals c.grow.new.part) (literals c.in_ok-more.more)) c.as_slice.ensures c.in_ok-more.ensures.splits)
