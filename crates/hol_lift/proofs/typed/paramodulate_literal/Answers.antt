use Rattle.std.proofs.Common.{sym, subst, ◌∙◌}
use Rattle.hol_terms.specs.Formulas.{IsFormula}
use Rattle.hol_kernel.proofs.Growing.{extends_trans}
use Rattle.hol_kernel.proofs.Making.{err_free}
use Rattle.hol_derived.proofs.Splits.{formula_stays}
use Rattle.hol_lift.specs.inner.Typed.{rewritten}
use Rattle.hol_lift.proofs.Joins.{paramodulated_ok, rewritten_formula}
use Rattle.hol_lift.proofs.typed.paramodulate_literal.Goals as goal

pub paramodulate-requires-clause-e : goal.paramodulate-requires-clause-e
paramodulate-requires-clause-e c = c.requires.e

pub paramodulate-requires-clause-is : goal.paramodulate-requires-clause-is
paramodulate-requires-clause-is c = c.requires.is

pub paramodulate-requires-clause-left : goal.paramodulate-requires-clause-left
paramodulate-requires-clause-left c = c.requires.left

pub paramodulate-requires-clause-left_false : goal.paramodulate-requires-clause-left_false
paramodulate-requires-clause-left_false c = c.requires.left_false

pub paramodulate-requires-clause-atom : goal.paramodulate-requires-clause-atom
paramodulate-requires-clause-atom c = c.requires.atom

pub paramodulate-requires-clause-part : goal.paramodulate-requires-clause-part
paramodulate-requires-clause-part c = c.requires.part

pub paramodulate-requires-clause-right : goal.paramodulate-requires-clause-right
paramodulate-requires-clause-right c = c.requires.right

pub paramodulate-requires-clause-right_false : goal.paramodulate-requires-clause-right_false
paramodulate-requires-clause-right_false c = c.requires.right_false

pub returns-in_err-made-clause-kept : goal.returns-in_err-made-clause-kept
returns-in_err-made-clause-kept c = c.paramodulate.ensures.kept

pub returns-in_err-made-clause-facts : goal.returns-in_err-made-clause-facts
returns-in_err-made-clause-facts c = c.paramodulate.ensures.facts

pub returns-in_err-made-clause-gives : goal.returns-in_err-made-clause-gives
returns-in_err-made-clause-gives c = err_free c.from_residual.result _ c.from_residual.ensures.0

pub returns-in_err-changed-clause-kept : goal.returns-in_err-changed-clause-kept
returns-in_err-changed-clause-kept c = c.paramodulate.ensures.kept

pub returns-in_err-changed-clause-facts : goal.returns-in_err-changed-clause-facts
returns-in_err-changed-clause-facts c = c.paramodulate.ensures.facts

pub returns-in_err-changed-clause-gives : goal.returns-in_err-changed-clause-gives
returns-in_err-changed-clause-gives c = err_free c.from_residual-in_err-changed.result _ c.from_residual-in_err-changed.ensures.0

pub drop_one-requires-clause-atom : goal.drop_one-requires-clause-atom
drop_one-requires-clause-atom c =
    subst (λ z. IsFormula c.paramodulate.new.log.env.sig z.atom) (sym c.in_ok-changed.ensures)
    (formula_stays c.args.log.now c.paramodulate.new.log _ c.paramodulate.ensures.kept (rewritten_formula c.args.log.now.env.sig c.args.e.now c.args.l.now.atom c.args.swapped c.args.path.now c.requires.is c.requires.e c.requires.atom c.requires.part))

pub drop_one-requires-clause-th : goal.drop_one-requires-clause-th
drop_one-requires-clause-th c = c.in_ok-made.ensures.gives.is_thm

pub returns-clause-kept : goal.returns-clause-kept
returns-clause-kept c = extends_trans _ _ _ c.paramodulate.ensures.kept c.drop_one.ensures.kept

pub returns-clause-facts : goal.returns-clause-facts
returns-clause-facts c = c.drop_one.ensures.facts ∙ c.paramodulate.ensures.facts

pub returns-clause-gives : goal.returns-clause-gives
returns-clause-gives c =
    paramodulated_ok c.args.log.now c.paramodulate.new.log c.drop_one.new.log c.args.e.now c.args.left.0 c.args.l.now (rewritten c.args.e.now c.args.swapped c.args.path.now c.args.l.now) c.in_ok-changed.changed c.args.right.0 c.in_ok-made.made.0 c.drop_one.result
    c.in_ok-changed.ensures c.in_ok-made.ensures.gives c.drop_one.ensures.gives
