use Rattle.std.proofs.Common.{◌≡◌, ◌+◌, sym, ap, subst, arith, drop, Bool, List, Some, true}
use Rattle.std.specs.Prelude.{All, IsTrue}
use Rattle.kernel_rules.specs.declared.step.Step.{Step}
use Rattle.kernel_rules.specs.declared.sequent.Sequent.{Sequent}
use Rattle.kernel_rules.specs.Derivations.{leaf, leaves, derived}
use Rattle.model_truth.specs.Truth.{FactIsTrue, AreTrueIn}
use Rattle.model_truth.proofs.Derivations.{derived_true}
use Rattle.fin_model.specs.Refutation.{facts_within}
use Rattle.fin_model.proofs.Models.{fits_is_model}
use Rattle.fin_model.proofs.Telling.{SoFar, begun, gone_on, gone_wrong, at_end, steps_next, left_nothing, err_tells, refused, nothing_promised}
use Rattle.fin_model.proofs.calls.leaves_true.Goals as goal

pub loop-step-init : goal.loop-step-init
loop-step-init c = subst (λ (l : List Step). SoFar c.args.env.now c.args.model.now true (leaves l) (leaves c.args.steps.now)) (sym c.as_slice-step-items.ensures) (begun c.args.env.now c.args.model.now (leaves c.args.steps.now))

pub is_true_leaf-requires : goal.is_true_leaf-requires
is_true_leaf-requires c = c.requires

pub returns-in_err-own-clause-answer : goal.returns-in_err-own-clause-answer
returns-in_err-own-clause-answer c =
    err_tells (All (FactIsTrue c.args.env.now c.args.model.now) (leaves c.args.steps.now)) (facts_within c.args.env.now c.args.model.now (leaves c.args.steps.now)) c.from_residual.result c.in_err-own.field-0.0 c.from_residual.ensures.1
    (refused (All (FactIsTrue c.args.env.now c.args.model.now) (leaf c.step-item.result)) (All (FactIsTrue c.args.env.now c.args.model.now) (leaves c.args.steps.now)) (facts_within c.args.env.now c.args.model.now (leaf c.step-item.result)) (facts_within c.args.env.now c.args.model.now (leaves c.args.steps.now)) c.in_err-own.field-0.0
    (gone_wrong c.args.env.now c.args.model.now c.loop-step.all (leaf c.step-item.result) (leaves (drop (c.loop-step.step-index + 1) c.as_slice-step-items.result.now)) (leaves c.args.steps.now) (steps_next c.args.env.now c.args.model.now c.loop-step.all c.as_slice-step-items.result.now (leaves c.args.steps.now) c.loop-step.step-index c.step-item.result c.loop-step.invariant c.loop-step-test.true c.step-item.is)) c.in_err-own.ensures)

pub returns-in_err-own-clause-sequents : goal.returns-in_err-own-clause-sequents
returns-in_err-own-clause-sequents c =
    nothing_promised c.from_residual.result c.in_err-own.field-0.0 (λ (b : Bool). IsTrue b → (sequents : List Sequent) → derived c.args.env.now c.args.steps.now ≡ Some sequents → AreTrueIn c.args.env.now.sig c.args.model.now sequents)
    c.from_residual.ensures.1

pub loop-step-preserved : goal.loop-step-preserved
loop-step-preserved c =
    subst (λ (b : Bool). SoFar c.args.env.now c.args.model.now b (leaves (drop (c.loop-step.step-index + 1) c.as_slice-step-items.result.now)) (leaves c.args.steps.now)) (sym c.both-all.ensures)
    (gone_on c.args.env.now c.args.model.now c.loop-step.all c.in_ok-own.own (leaf c.step-item.result) (leaves (drop (c.loop-step.step-index + 1) c.as_slice-step-items.result.now)) (leaves c.args.steps.now) (steps_next c.args.env.now c.args.model.now c.loop-step.all c.as_slice-step-items.result.now (leaves c.args.steps.now) c.loop-step.step-index c.step-item.result c.loop-step.invariant c.loop-step-test.true c.step-item.is) c.in_ok-own.ensures)

pub returns-clause-answer : goal.returns-clause-answer
returns-clause-answer c = at_end c.args.env.now c.args.model.now c.loop-step.all (leaves (drop c.loop-step.step-index c.as_slice-step-items.result.now)) (leaves c.args.steps.now) (ap leaves (left_nothing c.args.env.now c.args.model.now c.as_slice-step-items.result.now c.loop-step.step-index (omega arith))) c.loop-step.invariant

pub returns-clause-sequents : goal.returns-clause-sequents
returns-clause-sequents c = λ h sequents e. derived_true c.args.env.now c.args.model.now (fits_is_model c.args.env.now.sig c.args.model.now c.requires) c.args.steps.now sequents ((at_end c.args.env.now c.args.model.now c.loop-step.all (leaves (drop c.loop-step.step-index c.as_slice-step-items.result.now)) (leaves c.args.steps.now) (ap leaves (left_nothing c.args.env.now c.args.model.now c.as_slice-step-items.result.now c.loop-step.step-index (omega arith))) c.loop-step.invariant).0.0 h) e
