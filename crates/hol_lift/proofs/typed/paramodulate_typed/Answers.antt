use Rattle.std.proofs.Common.{sym, subst, ◌∙◌}
use Rattle.hol_kernel.proofs.Growing.{extends_trans}
use Rattle.hol_kernel.proofs.Making.{err_free}
use Rattle.hol_lift.specs.inner.Typed.{AllFormulas, Drops}
use Rattle.hol_lift.proofs.Drops.{formulas_stay}
use Rattle.hol_lift.proofs.Members.{got_within}
use Rattle.hol_lift.proofs.Joins.{all_got, got_equation, got_part, paramodulation_joins}
use Rattle.std.specs.Prelude.{IfOk}
use Rattle.hol_lift.proofs.typed.paramodulate_typed.Goals as goal

pub at-requires : goal.at-requires
at-requires c = got_within c.args.p.now c.args.i _ c.requires.rewrites.left

pub at-requires-2 : goal.at-requires-2
at-requires-2 c = got_within c.args.q.now c.args.j _ c.requires.rewrites.right

pub paramodulate_literal-requires-clause-e : goal.paramodulate_literal-requires-clause-e
paramodulate_literal-requires-clause-e c = all_got c.args.log.now.env.sig c.args.p.now c.args.i c.at.result.now c.requires.left_formulas c.at.ensures

pub paramodulate_literal-requires-clause-is : goal.paramodulate_literal-requires-clause-is
paramodulate_literal-requires-clause-is c = got_equation c.args.p.now c.args.i c.args.swapped c.args.q.now c.args.j c.args.path.now c.requires.rewrites c.at.result.now c.at-2.result.now c.at.ensures c.at-2.ensures

pub paramodulate_literal-requires-clause-left : goal.paramodulate_literal-requires-clause-left
paramodulate_literal-requires-clause-left c = c.requires.left

pub paramodulate_literal-requires-clause-left_false : goal.paramodulate_literal-requires-clause-left_false
paramodulate_literal-requires-clause-left_false c = c.requires.left_false

pub paramodulate_literal-requires-clause-atom : goal.paramodulate_literal-requires-clause-atom
paramodulate_literal-requires-clause-atom c = all_got c.args.log.now.env.sig c.args.q.now c.args.j c.at-2.result.now c.requires.right_formulas c.at-2.ensures

pub paramodulate_literal-requires-clause-part : goal.paramodulate_literal-requires-clause-part
paramodulate_literal-requires-clause-part c = got_part c.args.p.now c.args.i c.args.swapped c.args.q.now c.args.j c.args.path.now c.requires.rewrites c.at.result.now c.at-2.result.now c.at.ensures c.at-2.ensures

pub paramodulate_literal-requires-clause-right : goal.paramodulate_literal-requires-clause-right
paramodulate_literal-requires-clause-right c = c.requires.right

pub paramodulate_literal-requires-clause-right_false : goal.paramodulate_literal-requires-clause-right_false
paramodulate_literal-requires-clause-right_false c = c.requires.right_false

pub returns-in_err-made-clause-kept : goal.returns-in_err-made-clause-kept
returns-in_err-made-clause-kept c = c.paramodulate_literal.ensures.kept

pub returns-in_err-made-clause-facts : goal.returns-in_err-made-clause-facts
returns-in_err-made-clause-facts c = c.paramodulate_literal.ensures.facts

pub returns-in_err-made-clause-gives : goal.returns-in_err-made-clause-gives
returns-in_err-made-clause-gives c = err_free c.from_residual.result _ c.from_residual.ensures.0

pub drop_refuted-requires-clause-atoms : goal.drop_refuted-requires-clause-atoms
drop_refuted-requires-clause-atoms c =
    formulas_stay c.args.log.now c.paramodulate_literal.new.log c.as_slice.result.now c.paramodulate_literal.ensures.kept (subst (AllFormulas c.args.log.now.env.sig) (sym c.as_slice.ensures) c.requires.left_formulas)

pub drop_refuted-requires-clause-th : goal.drop_refuted-requires-clause-th
drop_refuted-requires-clause-th c = c.in_ok-made.ensures.gives.is_thm

pub returns-in_err-less-clause-kept : goal.returns-in_err-less-clause-kept
returns-in_err-less-clause-kept c = extends_trans _ _ _ c.paramodulate_literal.ensures.kept c.drop_refuted.ensures.kept

pub returns-in_err-less-clause-facts : goal.returns-in_err-less-clause-facts
returns-in_err-less-clause-facts c = c.drop_refuted.ensures.facts ∙ c.paramodulate_literal.ensures.facts

pub returns-in_err-less-clause-gives : goal.returns-in_err-less-clause-gives
returns-in_err-less-clause-gives c = err_free c.from_residual-in_err-less.result _ c.from_residual-in_err-less.ensures.0

pub drop_refuted-requires-2-clause-atoms : goal.drop_refuted-requires-2-clause-atoms
drop_refuted-requires-2-clause-atoms c =
    formulas_stay c.args.log.now c.drop_refuted.new.log c.as_slice-2.result.now (extends_trans _ _ _ c.paramodulate_literal.ensures.kept c.drop_refuted.ensures.kept)
    (subst (AllFormulas c.args.log.now.env.sig) (sym c.as_slice-2.ensures) c.requires.right_formulas)

pub drop_refuted-requires-2-clause-th : goal.drop_refuted-requires-2-clause-th
drop_refuted-requires-2-clause-th c = c.in_ok-less.ensures.gives.is_thm

pub returns-clause-kept : goal.returns-clause-kept
returns-clause-kept c = extends_trans _ _ _ (extends_trans _ _ _ c.paramodulate_literal.ensures.kept c.drop_refuted.ensures.kept) c.drop_refuted-2.ensures.kept

pub returns-clause-facts : goal.returns-clause-facts
returns-clause-facts c = c.drop_refuted-2.ensures.facts ∙ c.drop_refuted.ensures.facts ∙ c.paramodulate_literal.ensures.facts

pub returns-clause-gives : goal.returns-clause-gives
returns-clause-gives c =
    paramodulation_joins c.args.log.now c.paramodulate_literal.new.log c.drop_refuted.new.log c.drop_refuted-2.new.log c.args.left.0 c.args.right.0 c.in_ok-made.made.0 c.in_ok-less.less.0 c.args.p.now c.args.q.now c.args.i c.args.swapped c.args.j
    c.args.path.now c.at.result.now c.at-2.result.now c.drop_refuted-2.result c.at.ensures c.at-2.ensures c.in_ok-made.ensures.gives
    (subst (λ ls. Drops c.paramodulate_literal.new.log c.drop_refuted.new.log ls c.in_ok-made.made.0 c.in_ok-less.less.0) c.as_slice.ensures c.in_ok-less.ensures.gives)
    (subst (λ ls. IfOk c.drop_refuted-2.result (λ s. Drops c.drop_refuted.new.log c.drop_refuted-2.new.log ls c.in_ok-less.less.0 s.0)) c.as_slice-2.ensures c.drop_refuted-2.ensures.gives)
