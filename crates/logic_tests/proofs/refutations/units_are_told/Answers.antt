use Rattle.hol_kernel.proofs.Growing.{extends_trans, thm_stays}
use Rattle.hol_derived.proofs.Splits.{formula_stays}
use Rattle.hol_refutations.proofs.Steps.{stays_false}
use Rattle.logic_tests.proofs.refutations.units_are_told.Goals as goal

pub returns-in_err-no_truth : goal.returns-in_err-no_truth
returns-in_err-no_truth c = record { kept = c.not_true.ensures.kept }

pub returns-in_err-untrue : goal.returns-in_err-untrue
returns-in_err-untrue c = record { kept = extends_trans _ _ _ c.not_true.ensures.kept c.falsity.ensures.kept }

pub not_not-requires-clause-a : goal.not_not-requires-clause-a
not_not-requires-clause-a c = formula_stays _ _ c.args.a.now (extends_trans _ _ _ c.not_true.ensures.kept c.falsity.ensures.kept) c.requires.a

pub not_not-requires-clause-th : goal.not_not-requires-clause-th
not_not-requires-clause-th c = thm_stays _ _ _ (extends_trans _ _ _ c.not_true.ensures.kept c.falsity.ensures.kept) c.requires.left

pub not_not-requires-clause-refuted : goal.not_not-requires-clause-refuted
not_not-requires-clause-refuted c = stays_false _ _ c.args.left.0 (extends_trans _ _ _ c.not_true.ensures.kept c.falsity.ensures.kept) c.requires.left c.requires.left_false

pub returns-in_err-twice : goal.returns-in_err-twice
returns-in_err-twice c = record { kept = extends_trans _ _ _ (extends_trans _ _ _ c.not_true.ensures.kept c.falsity.ensures.kept) c.not_not.ensures.kept }

pub returns : goal.returns
returns c = record { kept = extends_trans _ _ _ (extends_trans _ _ _ c.not_true.ensures.kept c.falsity.ensures.kept) c.not_not.ensures.kept }
