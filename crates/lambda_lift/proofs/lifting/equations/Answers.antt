use Rattle.std.proofs.Common.{◌∙◌, sym, ap, arith}
use Rattle.lambda_lift.specs.Lifting.{equated}
use Rattle.lambda_lift.specs.Views.{stage}
use Rattle.lambda_lift.proofs.Rounds.{round, none_left, all_spent, listed}
use Rattle.lambda_lift.proofs.lifting.equations.Goals as goal

pub loop-at-init : goal.loop-at-init
loop-at-init c = ap (λ out. listed out (equated c.args.sig.now 18446744073709551615 0 (stage c.args.table.now c.args.met.now))) (sym c.begin-out.ensures)

pub loop-at-preserved : goal.loop-at-preserved
loop-at-preserved c =
    round c.args.sig.now (equated c.args.sig.now 18446744073709551615 0 (stage c.args.table.now c.args.met.now)) 18446744073709551615 c.loop-at.at c.loop-at.table _ c.loop-at.met _ c.in-Some.k
    c.in_ok-lift_equation-in-Some.field-0 c.loop-at.out _ (omega arith) c.loop-at.invariant (sym c.at.ensures ∙ c.in-Some.is) c.in_ok-lift_equation-in-Some.ensures c.in_ok-push-in-Some.ensures.ok

pub returns-in-None : goal.returns-in-None
returns-in-None c =
    none_left c.args.sig.now (equated c.args.sig.now 18446744073709551615 0 (stage c.args.table.now c.args.met.now)) 18446744073709551615 c.loop-at.at c.loop-at.table c.loop-at.met
    c.loop-at.out c.loop-at.invariant (sym c.at.ensures ∙ c.in-None.is)

pub returns : goal.returns
returns c =
    all_spent c.args.sig.now (equated c.args.sig.now 18446744073709551615 0 (stage c.args.table.now c.args.met.now)) 18446744073709551615 c.loop-at.at c.loop-at.table c.loop-at.met
    c.loop-at.out (omega arith) c.loop-at.invariant
