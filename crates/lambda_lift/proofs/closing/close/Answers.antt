use Rattle.std.proofs.Common.{◌∙◌, map, length}
use Rattle.std.proofs.lemmas.Result.{IfOk-weaker}
use Rattle.lambda_lift.specs.Scopes.{scope_types}
use Rattle.lambda_lift.specs.Closing.{lambdas, ty_at, variables, lambda_of}
use Rattle.lambda_lift.specs.inner.Marks.{passes, index_in}
use Rattle.lambda_lift.proofs.Occurring.{as_closed}
use Rattle.lambda_lift.proofs.closing.close.Goals as goal

pub returns : goal.returns
returns c =
    let binders = scope_types c.args.scope.now in
    let places = c.as_slice-3.result.now in
    let body = c.in_ok-body.ensures in
    IfOk-weaker c.under_lambdas.result _ _
    (λ r e. e ∙ (λ i. lambdas (map (ty_at binders) (variables (passes (c.as_slice-4.ensures i)) (length (c.as_slice-4.ensures i)))) (body i))
    ∙ as_closed binders c.args.t.now c.args.marks.now places c.count-total.result c.requires.length c.requires.marks
    (λ v. (λ i. index_in (c.as_slice-3.ensures i) c.count-total.result v) ∙ c.in_ok-places.ensures v ∙ (λ i. lambda_of (passes (c.as_slice-2.ensures i)) (length (c.as_slice-2.ensures i)) v)))
    c.under_lambdas.ensures
