use Rattle.std.proofs.lemmas.Result.{IfOk-weaker}
use Rattle.lambda_lift.proofs.Scoped.{scope_outside}
use Rattle.lambda_lift.proofs.Rounds.{equation_lifted}
use Rattle.lambda_lift.proofs.lifting.lift_equation.Goals as goal

pub returns : goal.returns
returns c =
    IfOk-weaker c.lift_formula.result _ _
    (λ r e. equation_lifted c.args.sig.now c.args.k c.args.table.now _ c.args.met.now _ c.in_ok-raw.raw r c.in_ok-raw.ensures (simp scope_outside at e))
    c.lift_formula.ensures
