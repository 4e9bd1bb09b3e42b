use Rattle.std.proofs.Common.{refl, ap, subst, sym, ◌∙◌}
use Rattle.hyp_sets.specs.Sets.{only}
use Rattle.hol_kernel.proofs.Growing.{extends_trans}
use Rattle.hol_kernel.proofs.Making.{err_free}
use Rattle.hol_clausify.specs.inner.Parts.{part_of, whole_of}
use Rattle.hol_clausify.specs.inner.Refuting.{AllFalse}
use Rattle.hol_clausify.proofs.Refuted.{all_false_stay}
use Rattle.hol_clausify.proofs.Ready.{ready_stays, landed_sum}
use Rattle.hol_clausify.proofs.refuting.refute_sum.Goals as goal

pub refute_from_each-requires-clause-ready : goal.refute_from_each-requires-clause-ready
refute_from_each-requires-clause-ready c = c.requires.first

pub refute_from_each-requires-clause-refuted : goal.refute_from_each-requires-clause-refuted
refute_from_each-requires-clause-refuted c = subst (AllFalse c.args.log.now) (sym c.as_slice.ensures) c.requires.one

pub refute_from_each-requires-2-clause-ready : goal.refute_from_each-requires-2-clause-ready
refute_from_each-requires-2-clause-ready c = ready_stays c.args.log.now c.refute_from_each.new.log c.refute_from_each.ensures.kept c.args.second c.requires.second

pub refute_from_each-requires-2-clause-refuted : goal.refute_from_each-requires-2-clause-refuted
refute_from_each-requires-2-clause-refuted c =
    subst (AllFalse c.refute_from_each.new.log) (sym c.as_slice-2.ensures) (all_false_stay c.args.log.now c.refute_from_each.new.log c.args.two.now.thms c.refute_from_each.ensures.kept c.requires.two)

pub returns-in_err-refute_from_each-clause-kept : goal.returns-in_err-refute_from_each-clause-kept
returns-in_err-refute_from_each-clause-kept c = c.refute_from_each.ensures.kept

pub returns-in_err-refute_from_each-clause-facts : goal.returns-in_err-refute_from_each-clause-facts
returns-in_err-refute_from_each-clause-facts c = c.refute_from_each.ensures.facts

pub returns-in_err-refute_from_each-clause-next : goal.returns-in_err-refute_from_each-clause-next
returns-in_err-refute_from_each-clause-next c = err_free c.from_residual.result _ c.from_residual.ensures.0

pub returns-in_err-refute_from_each-clause-gives : goal.returns-in_err-refute_from_each-clause-gives
returns-in_err-refute_from_each-clause-gives c = err_free c.from_residual.result _ c.from_residual.ensures.0

pub returns-in_err-refute_from_each-2-clause-kept : goal.returns-in_err-refute_from_each-2-clause-kept
returns-in_err-refute_from_each-2-clause-kept c = extends_trans _ _ _ c.refute_from_each.ensures.kept c.refute_from_each-2.ensures.kept

pub returns-in_err-refute_from_each-2-clause-facts : goal.returns-in_err-refute_from_each-2-clause-facts
returns-in_err-refute_from_each-2-clause-facts c = c.refute_from_each-2.ensures.facts ∙ c.refute_from_each.ensures.facts

pub returns-in_err-refute_from_each-2-clause-next : goal.returns-in_err-refute_from_each-2-clause-next
returns-in_err-refute_from_each-2-clause-next c = err_free c.from_residual-in_err-refute_from_each-2.result _ c.from_residual-in_err-refute_from_each-2.ensures.0

pub returns-in_err-refute_from_each-2-clause-gives : goal.returns-in_err-refute_from_each-2-clause-gives
returns-in_err-refute_from_each-2-clause-gives c = err_free c.from_residual-in_err-refute_from_each-2.result _ c.from_residual-in_err-refute_from_each-2.ensures.0

pub returns-clause-kept : goal.returns-clause-kept
returns-clause-kept c = extends_trans _ _ _ c.refute_from_each.ensures.kept c.refute_from_each-2.ensures.kept

pub returns-clause-facts : goal.returns-clause-facts
returns-clause-facts c = c.refute_from_each-2.ensures.facts ∙ c.refute_from_each.ensures.facts

pub returns-clause-next : goal.returns-clause-next
returns-clause-next c = refl

pub returns-clause-gives : goal.returns-clause-gives
returns-clause-gives c =
    let mid = c.refute_from_each.new.log in
    landed_sum c.args.log.now mid c.refute_from_each-2.new.log (part_of c.args.first) (part_of c.args.second) (only (whole_of c.args.first)) (only (whole_of c.args.second)) c.args.one.now.thms c.args.two.now.thms
    c.as_slice.result.now c.as_slice-2.result.now c.begin-thms.result c.refute_from_each.new.out c.refute_from_each-2.new.out c.as_slice.ensures c.as_slice-2.ensures c.begin-thms.ensures
    c.refute_from_each.ensures.kept c.refute_from_each-2.ensures.kept (ap only c.requires.same) c.in_ok-refute_from_each.ensures.gives c.in_ok-refute_from_each-2.ensures.gives
