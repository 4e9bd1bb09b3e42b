use Rattle.std.proofs.Common.{◌≡◌, [], Err, refl, sym, ◌∙◌, ap, subst, arith}
use Rattle.std.specs.Vec.Iter.{into_iter_items}
use Rattle.std.proofs.lemmas.List.{nil_from_length}
use Rattle.std.proofs.lemmas.Result.{err_from_is_err_and}
use Rattle.hol_kernel.specs.Checking.{Checked}
use Rattle.hol_kernel.proofs.Walking.{IsWalked, walked_none, walked_one, walked_all, walked_fault}
use Rattle.hol_kernel.proofs.derivation.checked.Goals as goal

pub same-log : goal.same-log
same-log c = refl

pub loop-step-init : goal.loop-step-init
loop-step-init c =
    walked_none c.args.env.now c.args.steps (into_iter_items c.into_iter-step-iterator.result) c.begin-log.result c.begin-log.ensures.env c.begin-log.ensures.steps c.begin-log.ensures.sequents
    (c.into_iter-step-iterator.ensures.into_iter_gives.0 ∙ c.into_vec-step-items.ensures)

pub loop-step-preserved : goal.loop-step-preserved
loop-step-preserved c =
    walked_one c.args.env.now c.args.steps (into_iter_items c.next.new.self) c.in-Some.step c.loop-step.log c.try_step.new.self c.in_ok-try_step.field-0.0
    (subst (IsWalked c.args.env.now c.args.steps c.loop-step.log) c.in-Some.ensures.steps.0 c.loop-step.invariant) c.in_ok-try_step.ensures.gives

pub returns-in_err-try_step : goal.returns-in_err-try_step
returns-in_err-try_step c =
    let p = err_from_is_err_and c.from_residual.result c.from_residual.ensures.1 in
    subst (Checked c.args.env.now c.args.steps) (sym (p.1 ∙ ap Err p.2))
    (walked_fault c.args.env.now c.args.steps (into_iter_items c.next.new.self) c.in-Some.step c.loop-step.log c.try_step.new.self c.in_err-try_step.field-0.0
    (subst (IsWalked c.args.env.now c.args.steps c.loop-step.log) c.in-Some.ensures.steps.0 c.loop-step.invariant) c.in_err-try_step.ensures.gives)

pub returns : goal.returns
returns c =
    let none : into_iter_items c.loop-step.step-iterator ≡ [] = nil_from_length (into_iter_items c.loop-step.step-iterator) (omega (arith, c.in-None.ensures.steps.0, c.loop-step.step-iterator.rest.ok.0)) in
    walked_all c.args.env.now c.args.steps c.loop-step.log (subst (IsWalked c.args.env.now c.args.steps c.loop-step.log) none c.loop-step.invariant)
