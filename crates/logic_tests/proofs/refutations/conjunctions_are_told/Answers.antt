use Rattle.hol_kernel.proofs.Growing.{extends_trans, thm_stays}
use Rattle.hol_derived.proofs.Splits.{formula_stays}
use Rattle.hol_refutations.proofs.Steps.{stays_false}
use Rattle.logic_tests.proofs.refutations.conjunctions_are_told.Goals as goal

pub and_left-requires-clause-a : goal.and_left-requires-clause-a
and_left-requires-clause-a c = c.requires.a

pub and_left-requires-clause-b : goal.and_left-requires-clause-b
and_left-requires-clause-b c = c.requires.b

pub and_left-requires-clause-th : goal.and_left-requires-clause-th
and_left-requires-clause-th c = c.requires.left

pub and_left-requires-clause-refuted : goal.and_left-requires-clause-refuted
and_left-requires-clause-refuted c = c.requires.left_false

pub returns-in_err-one : goal.returns-in_err-one
returns-in_err-one c = record { kept = c.and_left.ensures.kept }

pub and_right-requires-clause-a : goal.and_right-requires-clause-a
and_right-requires-clause-a c = formula_stays _ _ c.args.a.now c.and_left.ensures.kept c.requires.a

pub and_right-requires-clause-b : goal.and_right-requires-clause-b
and_right-requires-clause-b c = formula_stays _ _ c.args.b.now c.and_left.ensures.kept c.requires.b

pub and_right-requires-clause-th : goal.and_right-requires-clause-th
and_right-requires-clause-th c = thm_stays _ _ _ c.and_left.ensures.kept c.requires.right

pub and_right-requires-clause-refuted : goal.and_right-requires-clause-refuted
and_right-requires-clause-refuted c = stays_false _ _ c.args.right.0 c.and_left.ensures.kept c.requires.right c.requires.right_false

pub returns-in_err-other : goal.returns-in_err-other
returns-in_err-other c = record { kept = extends_trans _ _ _ c.and_left.ensures.kept c.and_right.ensures.kept }

pub not_and-requires-clause-a : goal.not_and-requires-clause-a
not_and-requires-clause-a c = formula_stays _ _ c.args.a.now (extends_trans _ _ _ c.and_left.ensures.kept c.and_right.ensures.kept) c.requires.a

pub not_and-requires-clause-b : goal.not_and-requires-clause-b
not_and-requires-clause-b c = formula_stays _ _ c.args.b.now (extends_trans _ _ _ c.and_left.ensures.kept c.and_right.ensures.kept) c.requires.b

pub not_and-requires-clause-left : goal.not_and-requires-clause-left
not_and-requires-clause-left c = thm_stays _ _ _ (extends_trans _ _ _ c.and_left.ensures.kept c.and_right.ensures.kept) c.requires.left

pub not_and-requires-clause-left_false : goal.not_and-requires-clause-left_false
not_and-requires-clause-left_false c = stays_false _ _ c.args.left.0 (extends_trans _ _ _ c.and_left.ensures.kept c.and_right.ensures.kept) c.requires.left c.requires.left_false

pub not_and-requires-clause-right : goal.not_and-requires-clause-right
not_and-requires-clause-right c = thm_stays _ _ _ (extends_trans _ _ _ c.and_left.ensures.kept c.and_right.ensures.kept) c.requires.right

pub not_and-requires-clause-right_false : goal.not_and-requires-clause-right_false
not_and-requires-clause-right_false c = stays_false _ _ c.args.right.0 (extends_trans _ _ _ c.and_left.ensures.kept c.and_right.ensures.kept) c.requires.right c.requires.right_false

pub returns-in_err-denied : goal.returns-in_err-denied
returns-in_err-denied c = record { kept = extends_trans _ _ _ (extends_trans _ _ _ c.and_left.ensures.kept c.and_right.ensures.kept) c.not_and.ensures.kept }

pub returns : goal.returns
returns c = record { kept = extends_trans _ _ _ (extends_trans _ _ _ c.and_left.ensures.kept c.and_right.ensures.kept) c.not_and.ensures.kept }
