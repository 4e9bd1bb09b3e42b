use Rattle.std.proofs.Common.{◌∙◌, ◌-◌, sym, ap, arith, true, refl}
use Rattle.hol_terms.specs.declared.term.Term as term
use Rattle.lambda_lift.specs.Closing.{variables, applied_to}
use Rattle.lambda_lift.proofs.Made.{app_is, bound_is}
use Rattle.lambda_lift.proofs.Occurring.{applied_taken}
use Rattle.lambda_lift.proofs.equation.applied.Goals as goal

pub loop-v-preserved : goal.loop-v-preserved
loop-v-preserved c = (
  omega arith,
  (λ i. applied_to (term.App (c.in_ok-new.ensures i) ((c.in_ok-arg.ensures ∙ bound_is (c.loop-v.v - 1)) i)) (variables (λ v. true) (c.loop-v.v - 1)))
      ∙ ap (λ t. applied_to t (variables (λ v. true) (c.loop-v.v - 1))) (app_is c.loop-v.term _)
      ∙ sym (applied_taken (λ v. true) c.loop-v.term c.loop-v.v (omega arith) refl) ∙ c.loop-v.invariant.1,
)
