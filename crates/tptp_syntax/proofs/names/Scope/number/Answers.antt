use Rattle.std.proofs.Common.{◌∙◌}
use Rattle.tptp_syntax.proofs.Binders.{answered}
use Rattle.tptp_syntax.proofs.names.Scope.number.Goals as goal

pub returns : goal.returns
returns c = answered c.args.name _ _ _ (c.copied.ensures ∙ c.get.ensures.value ∙ c.self.invariant.1 c.args.name) c.self.view_is
