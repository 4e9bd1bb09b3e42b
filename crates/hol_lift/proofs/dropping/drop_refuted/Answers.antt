use Rattle.std.proofs.Common.{◌∙◌}
use Rattle.hol_kernel.proofs.Growing.{extends_trans}
use Rattle.hol_kernel.proofs.Making.{err_free}
use Rattle.hol_lift.proofs.Drops.{dropped_start, dropped_step, dropped_all, formula_still}
use Rattle.hol_lift.proofs.dropping.drop_refuted.Goals as goal

pub loop-l-init : goal.loop-l-init
loop-l-init c = dropped_start c.args.log.now c.args.th.0 c.requires.th

pub drop_one-requires-clause-atom : goal.drop_one-requires-clause-atom
drop_one-requires-clause-atom c = formula_still c.args.log.now c.loop-l.log c.args.literals.now c.loop-l.l-index c.l-item.result c.loop-l.invariant.kept c.requires.atoms c.loop-l-test.true c.l-item.is

pub drop_one-requires-clause-th : goal.drop_one-requires-clause-th
drop_one-requires-clause-th c = c.loop-l.invariant.drops.is_thm

pub returns-in_err-at-clause-kept : goal.returns-in_err-at-clause-kept
returns-in_err-at-clause-kept c = extends_trans _ _ _ c.loop-l.invariant.kept c.drop_one.ensures.kept

pub returns-in_err-at-clause-facts : goal.returns-in_err-at-clause-facts
returns-in_err-at-clause-facts c = c.drop_one.ensures.facts ∙ c.loop-l.invariant.facts

pub returns-in_err-at-clause-gives : goal.returns-in_err-at-clause-gives
returns-in_err-at-clause-gives c = err_free c.from_residual.result _ c.from_residual.ensures.0

pub loop-l-preserved : goal.loop-l-preserved
loop-l-preserved c = dropped_step c.args.log.now c.loop-l.log c.drop_one.new.log c.args.literals.now c.loop-l.l-index c.l-item.result c.args.th.0 _ c.in_ok-at.at.0 c.loop-l-test.true c.l-item.is c.loop-l.invariant c.drop_one.ensures.kept c.drop_one.ensures.facts c.in_ok-at.ensures.gives

pub returns-clause-kept : goal.returns-clause-kept
returns-clause-kept c = c.loop-l.invariant.kept

pub returns-clause-facts : goal.returns-clause-facts
returns-clause-facts c = c.loop-l.invariant.facts

pub returns-clause-gives : goal.returns-clause-gives
returns-clause-gives c = dropped_all c.args.log.now c.loop-l.log c.args.literals.now c.loop-l.l-index c.args.th.0 _ c.loop-l-test.false c.loop-l.invariant
