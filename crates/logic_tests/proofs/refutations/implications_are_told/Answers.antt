use Rattle.hol_kernel.proofs.Growing.{extends_trans, thm_stays}
use Rattle.hol_derived.proofs.Splits.{formula_stays}
use Rattle.hol_refutations.proofs.Steps.{stays_false}
use Rattle.logic_tests.proofs.refutations.implications_are_told.Goals as goal

pub implies-requires-clause-a : goal.implies-requires-clause-a
implies-requires-clause-a c = c.requires.a

pub implies-requires-clause-b : goal.implies-requires-clause-b
implies-requires-clause-b c = c.requires.b

pub implies-requires-clause-left : goal.implies-requires-clause-left
implies-requires-clause-left c = c.requires.left

pub implies-requires-clause-left_false : goal.implies-requires-clause-left_false
implies-requires-clause-left_false c = c.requires.left_false

pub implies-requires-clause-right : goal.implies-requires-clause-right
implies-requires-clause-right c = c.requires.right

pub implies-requires-clause-right_false : goal.implies-requires-clause-right_false
implies-requires-clause-right_false c = c.requires.right_false

pub returns-in_err-held : goal.returns-in_err-held
returns-in_err-held c = record { kept = c.implies.ensures.kept }

pub not_implies-requires-clause-a : goal.not_implies-requires-clause-a
not_implies-requires-clause-a c = formula_stays _ _ c.args.a.now c.implies.ensures.kept c.requires.a

pub not_implies-requires-clause-b : goal.not_implies-requires-clause-b
not_implies-requires-clause-b c = formula_stays _ _ c.args.b.now c.implies.ensures.kept c.requires.b

pub not_implies-requires-clause-th : goal.not_implies-requires-clause-th
not_implies-requires-clause-th c = thm_stays _ _ _ c.implies.ensures.kept c.requires.left

pub not_implies-requires-clause-refuted : goal.not_implies-requires-clause-refuted
not_implies-requires-clause-refuted c = stays_false _ _ c.args.left.0 c.implies.ensures.kept c.requires.left c.requires.left_false

pub returns-in_err-one : goal.returns-in_err-one
returns-in_err-one c = record { kept = extends_trans _ _ _ c.implies.ensures.kept c.not_implies.ensures.kept }

pub not_implies-requires-2-clause-a : goal.not_implies-requires-2-clause-a
not_implies-requires-2-clause-a c = formula_stays _ _ c.args.a.now (extends_trans _ _ _ c.implies.ensures.kept c.not_implies.ensures.kept) c.requires.a

pub not_implies-requires-2-clause-b : goal.not_implies-requires-2-clause-b
not_implies-requires-2-clause-b c = formula_stays _ _ c.args.b.now (extends_trans _ _ _ c.implies.ensures.kept c.not_implies.ensures.kept) c.requires.b

pub not_implies-requires-2-clause-th : goal.not_implies-requires-2-clause-th
not_implies-requires-2-clause-th c = thm_stays _ _ _ (extends_trans _ _ _ c.implies.ensures.kept c.not_implies.ensures.kept) c.requires.right

pub not_implies-requires-2-clause-refuted : goal.not_implies-requires-2-clause-refuted
not_implies-requires-2-clause-refuted c = stays_false _ _ c.args.right.0 (extends_trans _ _ _ c.implies.ensures.kept c.not_implies.ensures.kept) c.requires.right c.requires.right_false

pub returns-in_err-other : goal.returns-in_err-other
returns-in_err-other c = record { kept = extends_trans _ _ _ (extends_trans _ _ _ c.implies.ensures.kept c.not_implies.ensures.kept) c.not_implies-2.ensures.kept }

pub returns : goal.returns
returns c = record { kept = extends_trans _ _ _ (extends_trans _ _ _ c.implies.ensures.kept c.not_implies.ensures.kept) c.not_implies-2.ensures.kept }
