use Rattle.std.proofs.Common.{◌∙◌, length}
use Rattle.std.proofs.lemmas.Result.{IfOk-weaker}
use Rattle.hol_terms.specs.declared.konst.Konst.TheVariants as konst
use Rattle.lambda_lift.specs.Scopes.{scope_types}
use Rattle.lambda_lift.specs.Closing.{variables, applied_to}
use Rattle.lambda_lift.specs.inner.Marks.{passes}
use Rattle.lambda_lift.proofs.Made.{con_is}
use Rattle.lambda_lift.proofs.Ending.{out_ends}
use Rattle.lambda_lift.proofs.walk.lift_out.Goals as goal

pub returns : goal.returns
returns c =
    IfOk-weaker c.apply_to_marked.result _ _
    (λ r e. out_ends c.args.sig.now c.args.t.now (scope_types c.args.scope.now) c.args.table.now c.args.met.now c.in_ok-marks.marks c.in_ok-k.k r _ _
    c.in_ok-marks.ensures.length c.in_ok-marks.ensures.marks c.in_ok-k.ensures.number c.in_ok-k.ensures.table c.in_ok-k.ensures.met
    (e ∙ (λ i. applied_to (con_is (konst.Aux c.in_ok-k.k) i) (variables (passes (c.as_slice.ensures i)) (length (c.as_slice.ensures i))))))
    c.apply_to_marked.ensures
