use Rattle.std.proofs.Common.{refl, subst, sym}
use Rattle.hyp_sets.specs.Sets.{only}
use Rattle.hol_kernel.proofs.Making.{err_free}
use Rattle.hol_clausify.specs.inner.Parts.{part_of, whole_of}
use Rattle.hol_clausify.specs.inner.Refuting.{AllFalse}
use Rattle.hol_clausify.proofs.Ready.{landed_whole}
use Rattle.hol_clausify.proofs.refuting.refute_one.Goals as goal

pub refute_from_each-requires-clause-ready : goal.refute_from_each-requires-clause-ready
refute_from_each-requires-clause-ready c = c.requires.ready

pub refute_from_each-requires-clause-refuted : goal.refute_from_each-requires-clause-refuted
refute_from_each-requires-clause-refuted c = subst (AllFalse c.args.log.now) (sym c.as_slice.ensures) c.requires.refuted

pub returns-in_err-refute_from_each-clause-kept : goal.returns-in_err-refute_from_each-clause-kept
returns-in_err-refute_from_each-clause-kept c = c.refute_from_each.ensures.kept

pub returns-in_err-refute_from_each-clause-facts : goal.returns-in_err-refute_from_each-clause-facts
returns-in_err-refute_from_each-clause-facts c = c.refute_from_each.ensures.facts

pub returns-in_err-refute_from_each-clause-next : goal.returns-in_err-refute_from_each-clause-next
returns-in_err-refute_from_each-clause-next c = err_free c.from_residual.result _ c.from_residual.ensures.0

pub returns-in_err-refute_from_each-clause-gives : goal.returns-in_err-refute_from_each-clause-gives
returns-in_err-refute_from_each-clause-gives c = err_free c.from_residual.result _ c.from_residual.ensures.0

pub returns-clause-kept : goal.returns-clause-kept
returns-clause-kept c = c.refute_from_each.ensures.kept

pub returns-clause-facts : goal.returns-clause-facts
returns-clause-facts c = c.refute_from_each.ensures.facts

pub returns-clause-next : goal.returns-clause-next
returns-clause-next c = refl

pub returns-clause-gives : goal.returns-clause-gives
returns-clause-gives c =
    landed_whole c.args.log.now c.refute_from_each.new.log (part_of c.args.part) (only (whole_of c.args.part)) c.args.inner.now.thms c.as_slice.result.now c.begin-thms.result c.refute_from_each.new.out
    c.as_slice.ensures c.begin-thms.ensures c.in_ok-refute_from_each.ensures.gives
