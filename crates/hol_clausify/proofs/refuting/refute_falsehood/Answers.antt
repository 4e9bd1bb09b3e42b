use Rattle.std.proofs.Common.{refl, not, ap}
use Rattle.hyp_sets.specs.Sets.{only}
use Rattle.hyp_sets.proofs.Answered.{if_ok_map}
use Rattle.kernel_rules.specs.Connectives.{falsum}
use Rattle.hol_kernel.proofs.Growing.{extends_refl}
use Rattle.hol_kernel.proofs.Making.{err_free}
use Rattle.hol_clausify.specs.inner.Refuting.{placed}
use Rattle.hol_clausify.proofs.Leaves.{truth_none, truth_one, alone_refuted, placed_true}
use Rattle.hol_clausify.proofs.refuting.refute_falsehood.Goals as goal

pub returns-then-not-positive-clause-kept : goal.returns-then-not-positive-clause-kept
returns-then-not-positive-clause-kept c = extends_refl c.args.log.now

pub returns-then-not-positive-clause-facts : goal.returns-then-not-positive-clause-facts
returns-then-not-positive-clause-facts c = refl

pub returns-then-not-positive-clause-gives : goal.returns-then-not-positive-clause-gives
returns-then-not-positive-clause-gives c =
    truth_none c.args.log.now (only (placed c.args.positive falsum)) c.args.next _ (not c.args.positive) (ap not c.if-not-positive.true) c.begin-thms.ensures refl

pub returns-in_err-th-clause-kept : goal.returns-in_err-th-clause-kept
returns-in_err-th-clause-kept c = c.falsity.ensures.kept

pub returns-in_err-th-clause-facts : goal.returns-in_err-th-clause-facts
returns-in_err-th-clause-facts c = c.falsity.ensures.facts

pub returns-in_err-th-clause-gives : goal.returns-in_err-th-clause-gives
returns-in_err-th-clause-gives c = err_free c.from_residual.result _ c.from_residual.ensures.0

pub returns-clause-kept : goal.returns-clause-kept
returns-clause-kept c = c.falsity.ensures.kept

pub returns-clause-facts : goal.returns-clause-facts
returns-clause-facts c = c.falsity.ensures.facts

pub returns-clause-gives : goal.returns-clause-gives
returns-clause-gives c =
    let log = c.falsity.new.log in
    if_ok_map c.one.result _ _
    (λ r h. truth_one log (only (placed c.args.positive falsum)) c.args.next r (not c.args.positive) c.in_ok-th.th (ap not c.if-not-positive.false) (placed_true log c.args.positive falsum c.in_ok-th.th.0 c.if-not-positive.false (alone_refuted log falsum c.in_ok-th.th.0 c.in_ok-th.ensures.gives)) h)
    c.one.ensures
