use Rattle.std.proofs.Common.{◌≡◌, ◌∙◌, ◌-◌, sym, ap, arith, true, false}
use Rattle.std.proofs.lemmas.Option.{unwrap_or-slice_get}
use Rattle.hol_terms.specs.declared.term.Term as term
use Rattle.lambda_lift.specs.Closing.{variables, applied_to}
use Rattle.lambda_lift.specs.inner.Marks.{passes}
use Rattle.lambda_lift.proofs.Made.{app_is, bound_is}
use Rattle.lambda_lift.proofs.Occurring.{applied_taken, applied_passed}
use Rattle.lambda_lift.proofs.closing.apply_to_marked.Goals as goal

pub loop-v-preserved-then-marks-v : goal.loop-v-preserved-then-marks-v
loop-v-preserved-then-marks-v c =
    let marked : passes c.args.marks.now (c.loop-v.v - 1) ≡ true = unwrap_or-slice_get c.args.marks.now (c.loop-v.v - 1) false ∙ c.if-marks-v.true in (
      omega arith,
      (λ i. applied_to (term.App (c.in_ok-new.ensures i) ((c.in_ok-arg.ensures ∙ bound_is (c.loop-v.v - 1)) i)) (variables (passes c.args.marks.now) (c.loop-v.v - 1)))
          ∙ ap (λ t. applied_to t (variables (passes c.args.marks.now) (c.loop-v.v - 1))) (app_is c.loop-v.term _)
          ∙ sym (applied_taken (passes c.args.marks.now) c.loop-v.term c.loop-v.v (omega arith) marked) ∙ c.loop-v.invariant.1,
    )

pub loop-v-preserved : goal.loop-v-preserved
loop-v-preserved c =
    let unmarked : passes c.args.marks.now (c.loop-v.v - 1) ≡ false = unwrap_or-slice_get c.args.marks.now (c.loop-v.v - 1) false ∙ c.if-marks-v.false in
    (omega arith, sym (applied_passed (passes c.args.marks.now) c.loop-v.term c.loop-v.v (omega arith) unmarked) ∙ c.loop-v.invariant.1)
