use Rattle.std.proofs.Common.{refl}
use Rattle.lambda_lift.specs.Lifting.{lifted_equation}
use Rattle.lambda_lift.specs.Views.{stage}
use Rattle.lambda_lift.proofs.Expansions.{stays_at}
use Rattle.lambda_lift.proofs.Growing.{formula_lifted_grows}
use Rattle.lambda_lift.proofs.RawEquations.{equation_back}
use Rattle.lambda_lift.proofs.laws.equations_hold.Goals as goal

pub returns : goal.returns
returns c = λ at no_aux no_loose.
    let sig = c.args.sig.now in
    let s = stage c.args.table.now c.args.met.now in
    let w = lifted_equation sig c.args.number s in
    equation_back sig c.args.number c.args.entry.now s _ at no_aux no_loose (record { more = c.args.more.now; is = refl })
    (stays_at c.args.table.now _ c.args.number c.args.entry.now (formula_lifted_grows sig _ s) c.args.more.now at)
