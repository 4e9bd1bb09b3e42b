use Rattle.std.proofs.Common.{refl, ap, subst, sym, ◌∙◌}
use Rattle.hyp_sets.specs.Sets.{only}
use Rattle.hol_terms.specs.Formulas.{IsFormula}
use Rattle.hol_kernel.proofs.Growing.{extends_trans}
use Rattle.hol_kernel.proofs.Making.{err_free}
use Rattle.hol_derived.proofs.Splits.{formula_stays}
use Rattle.hol_clausify.specs.inner.Parts.{first_of, second_of, whole_of_both}
use Rattle.hol_clausify.specs.inner.Refuting.{AllFalse}
use Rattle.hol_clausify.proofs.Refuted.{all_false_stay}
use Rattle.hol_clausify.proofs.Ready.{landed_products}
use Rattle.hol_clausify.proofs.refuting.refute_products.Goals as goal

pub refute_from_each_with_each-requires-clause-a : goal.refute_from_each_with_each-requires-clause-a
refute_from_each_with_each-requires-clause-a c = c.requires.a

pub refute_from_each_with_each-requires-clause-b : goal.refute_from_each_with_each-requires-clause-b
refute_from_each_with_each-requires-clause-b c = c.requires.b

pub refute_from_each_with_each-requires-clause-whole : goal.refute_from_each_with_each-requires-clause-whole
refute_from_each_with_each-requires-clause-whole c = c.requires.whole

pub refute_from_each_with_each-requires-clause-lefts : goal.refute_from_each_with_each-requires-clause-lefts
refute_from_each_with_each-requires-clause-lefts c = subst (AllFalse c.args.log.now) (sym c.as_slice-ones.ensures) c.requires.one

pub refute_from_each_with_each-requires-clause-rights : goal.refute_from_each_with_each-requires-clause-rights
refute_from_each_with_each-requires-clause-rights c = subst (AllFalse c.args.log.now) (sym c.as_slice.ensures) c.requires.two

pub refute_from_each_with_each-requires-2-clause-a : goal.refute_from_each_with_each-requires-2-clause-a
refute_from_each_with_each-requires-2-clause-a c = formula_stays c.args.log.now c.refute_from_each_with_each.new.log c.args.a.now c.refute_from_each_with_each.ensures.kept c.requires.a

pub refute_from_each_with_each-requires-2-clause-b : goal.refute_from_each_with_each-requires-2-clause-b
refute_from_each_with_each-requires-2-clause-b c = formula_stays c.args.log.now c.refute_from_each_with_each.new.log c.args.b.now c.refute_from_each_with_each.ensures.kept c.requires.b

pub refute_from_each_with_each-requires-2-clause-whole : goal.refute_from_each_with_each-requires-2-clause-whole
refute_from_each_with_each-requires-2-clause-whole c = subst (IsFormula c.refute_from_each_with_each.new.log.env.sig) c.requires.same (formula_stays c.args.log.now c.refute_from_each_with_each.new.log (whole_of_both c.args.first c.args.a.now c.args.b.now) c.refute_from_each_with_each.ensures.kept c.requires.whole)

pub refute_from_each_with_each-requires-2-clause-lefts : goal.refute_from_each_with_each-requires-2-clause-lefts
refute_from_each_with_each-requires-2-clause-lefts c = subst (AllFalse c.refute_from_each_with_each.new.log) (sym c.as_slice-threes.ensures) (all_false_stay c.args.log.now c.refute_from_each_with_each.new.log c.args.three.now.thms c.refute_from_each_with_each.ensures.kept c.requires.three)

pub refute_from_each_with_each-requires-2-clause-rights : goal.refute_from_each_with_each-requires-2-clause-rights
refute_from_each_with_each-requires-2-clause-rights c = subst (AllFalse c.refute_from_each_with_each.new.log) (sym c.as_slice-2.ensures) (all_false_stay c.args.log.now c.refute_from_each_with_each.new.log c.args.four.now.thms c.refute_from_each_with_each.ensures.kept c.requires.four)

pub returns-in_err-refute_from_each_with_each-clause-kept : goal.returns-in_err-refute_from_each_with_each-clause-kept
returns-in_err-refute_from_each_with_each-clause-kept c = c.refute_from_each_with_each.ensures.kept

pub returns-in_err-refute_from_each_with_each-clause-facts : goal.returns-in_err-refute_from_each_with_each-clause-facts
returns-in_err-refute_from_each_with_each-clause-facts c = c.refute_from_each_with_each.ensures.facts

pub returns-in_err-refute_from_each_with_each-clause-next : goal.returns-in_err-refute_from_each_with_each-clause-next
returns-in_err-refute_from_each_with_each-clause-next c = err_free c.from_residual.result _ c.from_residual.ensures.0

pub returns-in_err-refute_from_each_with_each-clause-gives : goal.returns-in_err-refute_from_each_with_each-clause-gives
returns-in_err-refute_from_each_with_each-clause-gives c = err_free c.from_residual.result _ c.from_residual.ensures.0

pub returns-in_err-refute_from_each_with_each-2-clause-kept : goal.returns-in_err-refute_from_each_with_each-2-clause-kept
returns-in_err-refute_from_each_with_each-2-clause-kept c = extends_trans _ _ _ c.refute_from_each_with_each.ensures.kept c.refute_from_each_with_each-2.ensures.kept

pub returns-in_err-refute_from_each_with_each-2-clause-facts : goal.returns-in_err-refute_from_each_with_each-2-clause-facts
returns-in_err-refute_from_each_with_each-2-clause-facts c = c.refute_from_each_with_each-2.ensures.facts ∙ c.refute_from_each_with_each.ensures.facts

pub returns-in_err-refute_from_each_with_each-2-clause-next : goal.returns-in_err-refute_from_each_with_each-2-clause-next
returns-in_err-refute_from_each_with_each-2-clause-next c = err_free c.from_residual-in_err-refute_from_each_with_each-2.result _ c.from_residual-in_err-refute_from_each_with_each-2.ensures.0

pub returns-in_err-refute_from_each_with_each-2-clause-gives : goal.returns-in_err-refute_from_each_with_each-2-clause-gives
returns-in_err-refute_from_each_with_each-2-clause-gives c = err_free c.from_residual-in_err-refute_from_each_with_each-2.result _ c.from_residual-in_err-refute_from_each_with_each-2.ensures.0

pub returns-clause-kept : goal.returns-clause-kept
returns-clause-kept c = extends_trans _ _ _ c.refute_from_each_with_each.ensures.kept c.refute_from_each_with_each-2.ensures.kept

pub returns-clause-facts : goal.returns-clause-facts
returns-clause-facts c = c.refute_from_each_with_each-2.ensures.facts ∙ c.refute_from_each_with_each.ensures.facts

pub returns-clause-next : goal.returns-clause-next
returns-clause-next c = refl

pub returns-clause-gives : goal.returns-clause-gives
returns-clause-gives c =
    let a = c.args.a.now in
    let b = c.args.b.now in
    landed_products c.args.log.now c.refute_from_each_with_each.new.log c.refute_from_each_with_each-2.new.log (first_of c.args.first a) (second_of c.args.first b) (first_of c.args.second a) (second_of c.args.second b)
    (only (whole_of_both c.args.first a b)) (only (whole_of_both c.args.second a b)) c.args.one.now.thms c.args.two.now.thms c.args.three.now.thms c.args.four.now.thms c.as_slice-ones.result.now c.as_slice.result.now
    c.as_slice-threes.result.now c.as_slice-2.result.now c.begin-thms.result c.refute_from_each_with_each.new.out c.refute_from_each_with_each-2.new.out c.as_slice-ones.ensures c.as_slice.ensures c.as_slice-threes.ensures c.as_slice-2.ensures c.begin-thms.ensures
    c.refute_from_each_with_each.ensures.kept c.refute_from_each_with_each-2.ensures.kept (ap only c.requires.same) c.in_ok-refute_from_each_with_each.ensures.gives c.in_ok-refute_from_each_with_each-2.ensures.gives
