use Rattle.std.proofs.Common.{◌∙◌, sym, subst, Some, None}
use Rattle.lambda_lift.specs.inner.Places.{Numbers}
use Rattle.lambda_lift.proofs.Looking.{numbers}
use Rattle.lambda_lift.proofs.table.Table.number_of.Goals as goal

pub returns-in-Some : goal.returns-in-Some
returns-in-Some c = λ t is.
    subst (λ table. Numbers table t (Some c.in-Some.at)) c.self.view_is
    (numbers (λ v. v.items) c.self.inside.keys.keys c.self.inside.entries c.self.invariant c.args.key.now t is (Some c.in-Some.at) (sym c.in-Some.is ∙ c.get_index_of.ensures.index))

pub returns-in-None : goal.returns-in-None
returns-in-None c = λ t is.
    subst (λ table. Numbers table t None) c.self.view_is
    (numbers (λ v. v.items) c.self.inside.keys.keys c.self.inside.entries c.self.invariant c.args.key.now t is None (sym c.in-None.is ∙ c.get_index_of.ensures.index))
