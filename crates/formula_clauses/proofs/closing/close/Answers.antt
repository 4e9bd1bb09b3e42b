use Rattle.std.proofs.Common.{◌∙◌}
use Rattle.std.proofs.lemmas.Result.{IfOk-weaker}
use Rattle.formula_clauses.specs.inner.Binding.{lambdas}
use Rattle.formula_clauses.proofs.Binding.{closed_at_once}
use Rattle.formula_clauses.proofs.closing.close.Goals as goal

pub returns : goal.returns
returns c = IfOk-weaker c.under_lambdas.result _ _ (λ r e. e ∙ (λ i. lambdas c.args.vs.now (c.in_ok-body.ensures i)) ∙ closed_at_once c.args.vs.now c.args.t.now) c.under_lambdas.ensures
