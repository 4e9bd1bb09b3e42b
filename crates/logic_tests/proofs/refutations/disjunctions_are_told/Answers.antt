use Rattle.hol_kernel.proofs.Growing.{extends_trans, thm_stays}
use Rattle.hol_derived.proofs.Splits.{formula_stays}
use Rattle.hol_refutations.proofs.Steps.{stays_false}
use Rattle.logic_tests.proofs.refutations.disjunctions_are_told.Goals as goal

pub or_both-requires-clause-a : goal.or_both-requires-clause-a
or_both-requires-clause-a c = c.requires.a

pub or_both-requires-clause-b : goal.or_both-requires-clause-b
or_both-requires-clause-b c = c.requires.b

pub or_both-requires-clause-left : goal.or_both-requires-clause-left
or_both-requires-clause-left c = c.requires.left

pub or_both-requires-clause-left_false : goal.or_both-requires-clause-left_false
or_both-requires-clause-left_false c = c.requires.left_false

pub or_both-requires-clause-right : goal.or_both-requires-clause-right
or_both-requires-clause-right c = c.requires.right

pub or_both-requires-clause-right_false : goal.or_both-requires-clause-right_false
or_both-requires-clause-right_false c = c.requires.right_false

pub returns-in_err-either : goal.returns-in_err-either
returns-in_err-either c = record { kept = c.or_both.ensures.kept }

pub not_or_left-requires-clause-a : goal.not_or_left-requires-clause-a
not_or_left-requires-clause-a c = formula_stays _ _ c.args.a.now c.or_both.ensures.kept c.requires.a

pub not_or_left-requires-clause-b : goal.not_or_left-requires-clause-b
not_or_left-requires-clause-b c = formula_stays _ _ c.args.b.now c.or_both.ensures.kept c.requires.b

pub not_or_left-requires-clause-th : goal.not_or_left-requires-clause-th
not_or_left-requires-clause-th c = thm_stays _ _ _ c.or_both.ensures.kept c.requires.left

pub not_or_left-requires-clause-refuted : goal.not_or_left-requires-clause-refuted
not_or_left-requires-clause-refuted c = stays_false _ _ c.args.left.0 c.or_both.ensures.kept c.requires.left c.requires.left_false

pub returns-in_err-one : goal.returns-in_err-one
returns-in_err-one c = record { kept = extends_trans _ _ _ c.or_both.ensures.kept c.not_or_left.ensures.kept }

pub not_or_right-requires-clause-a : goal.not_or_right-requires-clause-a
not_or_right-requires-clause-a c = formula_stays _ _ c.args.a.now (extends_trans _ _ _ c.or_both.ensures.kept c.not_or_left.ensures.kept) c.requires.a

pub not_or_right-requires-clause-b : goal.not_or_right-requires-clause-b
not_or_right-requires-clause-b c = formula_stays _ _ c.args.b.now (extends_trans _ _ _ c.or_both.ensures.kept c.not_or_left.ensures.kept) c.requires.b

pub not_or_right-requires-clause-th : goal.not_or_right-requires-clause-th
not_or_right-requires-clause-th c = thm_stays _ _ _ (extends_trans _ _ _ c.or_both.ensures.kept c.not_or_left.ensures.kept) c.requires.right

pub not_or_right-requires-clause-refuted : goal.not_or_right-requires-clause-refuted
not_or_right-requires-clause-refuted c = stays_false _ _ c.args.right.0 (extends_trans _ _ _ c.or_both.ensures.kept c.not_or_left.ensures.kept) c.requires.right c.requires.right_false

pub returns-in_err-other : goal.returns-in_err-other
returns-in_err-other c = record { kept = extends_trans _ _ _ (extends_trans _ _ _ c.or_both.ensures.kept c.not_or_left.ensures.kept) c.not_or_right.ensures.kept }

pub returns : goal.returns
returns c = record { kept = extends_trans _ _ _ (extends_trans _ _ _ c.or_both.ensures.kept c.not_or_left.ensures.kept) c.not_or_right.ensures.kept }
