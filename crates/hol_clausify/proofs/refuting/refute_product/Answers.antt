use Rattle.std.proofs.Common.{refl, subst, sym}
use Rattle.hyp_sets.specs.Sets.{only}
use Rattle.hol_kernel.proofs.Making.{err_free}
use Rattle.hol_clausify.specs.inner.Parts.{first_of, second_of, whole_of_both}
use Rattle.hol_clausify.specs.inner.Refuting.{AllFalse}
use Rattle.hol_clausify.proofs.Ready.{landed_product}
use Rattle.hol_clausify.proofs.refuting.refute_product.Goals as goal

pub refute_from_each_with_each-requires-clause-a : goal.refute_from_each_with_each-requires-clause-a
refute_from_each_with_each-requires-clause-a c = c.requires.a

pub refute_from_each_with_each-requires-clause-b : goal.refute_from_each_with_each-requires-clause-b
refute_from_each_with_each-requires-clause-b c = c.requires.b

pub refute_from_each_with_each-requires-clause-whole : goal.refute_from_each_with_each-requires-clause-whole
refute_from_each_with_each-requires-clause-whole c = c.requires.whole

pub refute_from_each_with_each-requires-clause-lefts : goal.refute_from_each_with_each-requires-clause-lefts
refute_from_each_with_each-requires-clause-lefts c = subst (AllFalse c.args.log.now) (sym c.as_slice-lefts.ensures) c.requires.one

pub refute_from_each_with_each-requires-clause-rights : goal.refute_from_each_with_each-requires-clause-rights
refute_from_each_with_each-requires-clause-rights c = subst (AllFalse c.args.log.now) (sym c.as_slice.ensures) c.requires.two

pub returns-in_err-refute_from_each_with_each-clause-kept : goal.returns-in_err-refute_from_each_with_each-clause-kept
returns-in_err-refute_from_each_with_each-clause-kept c = c.refute_from_each_with_each.ensures.kept

pub returns-in_err-refute_from_each_with_each-clause-facts : goal.returns-in_err-refute_from_each_with_each-clause-facts
returns-in_err-refute_from_each_with_each-clause-facts c = c.refute_from_each_with_each.ensures.facts

pub returns-in_err-refute_from_each_with_each-clause-next : goal.returns-in_err-refute_from_each_with_each-clause-next
returns-in_err-refute_from_each_with_each-clause-next c = err_free c.from_residual.result _ c.from_residual.ensures.0

pub returns-in_err-refute_from_each_with_each-clause-gives : goal.returns-in_err-refute_from_each_with_each-clause-gives
returns-in_err-refute_from_each_with_each-clause-gives c = err_free c.from_residual.result _ c.from_residual.ensures.0

pub returns-clause-kept : goal.returns-clause-kept
returns-clause-kept c = c.refute_from_each_with_each.ensures.kept

pub returns-clause-facts : goal.returns-clause-facts
returns-clause-facts c = c.refute_from_each_with_each.ensures.facts

pub returns-clause-next : goal.returns-clause-next
returns-clause-next c = refl

pub returns-clause-gives : goal.returns-clause-gives
returns-clause-gives c =
    let a = c.args.a.now in
    let b = c.args.b.now in
    landed_product c.args.log.now c.refute_from_each_with_each.new.log (first_of c.args.pair a) (second_of c.args.pair b) (only (whole_of_both c.args.pair a b)) c.args.one.now.thms c.args.two.now.thms
    c.as_slice-lefts.result.now c.as_slice.result.now c.begin-thms.result c.refute_from_each_with_each.new.out c.as_slice-lefts.ensures c.as_slice.ensures c.begin-thms.ensures c.in_ok-refute_from_each_with_each.ensures.gives
