use Rattle.std.proofs.Common.{sym, subst, ◌∙◌}
use Rattle.hol_kernel.proofs.Growing.{extends_trans}
use Rattle.hol_kernel.proofs.Making.{err_free}
use Rattle.hol_lift.specs.inner.Typed.{AllFormulas, Drops}
use Rattle.hol_lift.proofs.Drops.{formulas_stay}
use Rattle.hol_lift.proofs.Members.{got_within}
use Rattle.hol_lift.proofs.Joins.{all_got, resolution_joins}
use Rattle.std.specs.Prelude.{IfOk}
use Rattle.hol_lift.proofs.typed.resolve_typed.Goals as goal

pub at-requires : goal.at-requires
at-requires c = got_within c.args.p.now c.args.i _ c.requires.opposed.left

pub resolve-requires-clause-a : goal.resolve-requires-clause-a
resolve-requires-clause-a c = all_got c.args.log.now.env.sig c.args.p.now c.args.i c.at.result.now c.requires.left_formulas c.at.ensures

pub resolve-requires-clause-left : goal.resolve-requires-clause-left
resolve-requires-clause-left c = c.requires.left

pub resolve-requires-clause-right : goal.resolve-requires-clause-right
resolve-requires-clause-right c = c.requires.right

pub resolve-requires-clause-left_false : goal.resolve-requires-clause-left_false
resolve-requires-clause-left_false c = c.requires.left_false

pub resolve-requires-clause-right_false : goal.resolve-requires-clause-right_false
resolve-requires-clause-right_false c = c.requires.right_false

pub returns-in_err-resolved-clause-kept : goal.returns-in_err-resolved-clause-kept
returns-in_err-resolved-clause-kept c = c.resolve.ensures.kept

pub returns-in_err-resolved-clause-facts : goal.returns-in_err-resolved-clause-facts
returns-in_err-resolved-clause-facts c = c.resolve.ensures.facts

pub returns-in_err-resolved-clause-gives : goal.returns-in_err-resolved-clause-gives
returns-in_err-resolved-clause-gives c = err_free c.from_residual.result _ c.from_residual.ensures.0

pub drop_refuted-requires-clause-atoms : goal.drop_refuted-requires-clause-atoms
drop_refuted-requires-clause-atoms c = formulas_stay c.args.log.now c.resolve.new.log c.as_slice.result.now c.resolve.ensures.kept (subst (AllFormulas c.args.log.now.env.sig) (sym c.as_slice.ensures) c.requires.left_formulas)

pub drop_refuted-requires-clause-th : goal.drop_refuted-requires-clause-th
drop_refuted-requires-clause-th c = c.in_ok-resolved.ensures.gives.is_thm

pub returns-in_err-less-clause-kept : goal.returns-in_err-less-clause-kept
returns-in_err-less-clause-kept c = extends_trans _ _ _ c.resolve.ensures.kept c.drop_refuted.ensures.kept

pub returns-in_err-less-clause-facts : goal.returns-in_err-less-clause-facts
returns-in_err-less-clause-facts c = c.drop_refuted.ensures.facts ∙ c.resolve.ensures.facts

pub returns-in_err-less-clause-gives : goal.returns-in_err-less-clause-gives
returns-in_err-less-clause-gives c = err_free c.from_residual-in_err-less.result _ c.from_residual-in_err-less.ensures.0

pub drop_refuted-requires-2-clause-atoms : goal.drop_refuted-requires-2-clause-atoms
drop_refuted-requires-2-clause-atoms c =
    formulas_stay c.args.log.now c.drop_refuted.new.log c.as_slice-2.result.now (extends_trans _ _ _ c.resolve.ensures.kept c.drop_refuted.ensures.kept) (subst (AllFormulas c.args.log.now.env.sig) (sym c.as_slice-2.ensures) c.requires.right_formulas)

pub drop_refuted-requires-2-clause-th : goal.drop_refuted-requires-2-clause-th
drop_refuted-requires-2-clause-th c = c.in_ok-less.ensures.gives.is_thm

pub returns-clause-kept : goal.returns-clause-kept
returns-clause-kept c = extends_trans _ _ _ (extends_trans _ _ _ c.resolve.ensures.kept c.drop_refuted.ensures.kept) c.drop_refuted-2.ensures.kept

pub returns-clause-facts : goal.returns-clause-facts
returns-clause-facts c = c.drop_refuted-2.ensures.facts ∙ c.drop_refuted.ensures.facts ∙ c.resolve.ensures.facts

pub returns-clause-gives : goal.returns-clause-gives
returns-clause-gives c =
    resolution_joins c.args.log.now c.resolve.new.log c.drop_refuted.new.log c.drop_refuted-2.new.log c.args.left.0 c.args.right.0 c.in_ok-resolved.resolved.0 c.in_ok-less.less.0 c.args.p.now c.args.q.now c.args.i c.args.j c.at.result.now c.drop_refuted-2.result
    c.requires.opposed c.at.ensures c.in_ok-resolved.ensures.gives (subst (λ ls. Drops c.resolve.new.log c.drop_refuted.new.log ls c.in_ok-resolved.resolved.0 c.in_ok-less.less.0) c.as_slice.ensures c.in_ok-less.ensures.gives)
    (subst (λ ls. IfOk c.drop_refuted-2.result (λ s. Drops c.drop_refuted.new.log c.drop_refuted-2.new.log ls c.in_ok-less.less.0 s.0)) c.as_slice-2.ensures c.drop_refuted-2.ensures.gives)
