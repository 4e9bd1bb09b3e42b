use Rattle.std.proofs.Common.{◌∙◌, sym, ap, []}
use Rattle.lambda_lift.specs.Walks.{reading}
use Rattle.lambda_lift.specs.Views.{stage}
use Rattle.lambda_lift.proofs.Scoped.{scope_outside}
use Rattle.lambda_lift.proofs.Rounds.{all_lifted}
use Rattle.lambda_lift.proofs.lifting.lift.Goals as goal

pub returns : goal.returns
returns c =
    let sig = c.args.sig.now in
    all_lifted sig c.args.formula.now c.in_ok-body.body c.args.table.now c.lift_formula.new.table c.equations.new.table c.lift_formula.new.met c.in_ok-equations.equations
    (ap (λ met. (reading sig c.args.formula.now).formula [] (stage c.args.table.now met)) (sym c.begin-met.ensures) ∙ simp scope_outside at c.in_ok-body.ensures)
    c.in_ok-equations.ensures
