use Rattle.hol_kernel.proofs.Growing.{extends_trans, thm_stays}
use Rattle.hol_derived.proofs.Splits.{formula_stays}
use Rattle.hol_refutations.proofs.Steps.{stays_false}
use Rattle.logic_tests.proofs.refutations.equations_are_told.Goals as goal

pub equal_first-requires-clause-a : goal.equal_first-requires-clause-a
equal_first-requires-clause-a c = c.requires.a

pub equal_first-requires-clause-whole : goal.equal_first-requires-clause-whole
equal_first-requires-clause-whole c = c.requires.whole

pub equal_first-requires-clause-left : goal.equal_first-requires-clause-left
equal_first-requires-clause-left c = c.requires.left

pub equal_first-requires-clause-left_false : goal.equal_first-requires-clause-left_false
equal_first-requires-clause-left_false c = c.requires.left_false

pub equal_first-requires-clause-right : goal.equal_first-requires-clause-right
equal_first-requires-clause-right c = c.requires.right

pub equal_first-requires-clause-right_false : goal.equal_first-requires-clause-right_false
equal_first-requires-clause-right_false c = c.requires.right_false

pub returns-in_err-first : goal.returns-in_err-first
returns-in_err-first c = record { kept = c.equal_first.ensures.kept }

pub equal_second-requires-clause-a : goal.equal_second-requires-clause-a
equal_second-requires-clause-a c = formula_stays _ _ c.args.a.now c.equal_first.ensures.kept c.requires.a

pub equal_second-requires-clause-whole : goal.equal_second-requires-clause-whole
equal_second-requires-clause-whole c = formula_stays _ _ _ c.equal_first.ensures.kept c.requires.whole

pub equal_second-requires-clause-left : goal.equal_second-requires-clause-left
equal_second-requires-clause-left c = thm_stays _ _ _ c.equal_first.ensures.kept c.requires.left

pub equal_second-requires-clause-left_false : goal.equal_second-requires-clause-left_false
equal_second-requires-clause-left_false c = stays_false _ _ c.args.left.0 c.equal_first.ensures.kept c.requires.left c.requires.left_false

pub equal_second-requires-clause-right : goal.equal_second-requires-clause-right
equal_second-requires-clause-right c = thm_stays _ _ _ c.equal_first.ensures.kept c.requires.right

pub equal_second-requires-clause-right_false : goal.equal_second-requires-clause-right_false
equal_second-requires-clause-right_false c = stays_false _ _ c.args.right.0 c.equal_first.ensures.kept c.requires.right c.requires.right_false

pub returns-in_err-second : goal.returns-in_err-second
returns-in_err-second c = record { kept = extends_trans _ _ _ c.equal_first.ensures.kept c.equal_second.ensures.kept }

pub not_equal-requires-clause-a : goal.not_equal-requires-clause-a
not_equal-requires-clause-a c = formula_stays _ _ c.args.a.now (extends_trans _ _ _ c.equal_first.ensures.kept c.equal_second.ensures.kept) c.requires.a

pub not_equal-requires-clause-b : goal.not_equal-requires-clause-b
not_equal-requires-clause-b c = formula_stays _ _ c.args.b.now (extends_trans _ _ _ c.equal_first.ensures.kept c.equal_second.ensures.kept) c.requires.b

pub not_equal-requires-clause-left : goal.not_equal-requires-clause-left
not_equal-requires-clause-left c = thm_stays _ _ _ (extends_trans _ _ _ c.equal_first.ensures.kept c.equal_second.ensures.kept) c.requires.left

pub not_equal-requires-clause-left_false : goal.not_equal-requires-clause-left_false
not_equal-requires-clause-left_false c = stays_false _ _ c.args.left.0 (extends_trans _ _ _ c.equal_first.ensures.kept c.equal_second.ensures.kept) c.requires.left c.requires.left_false

pub not_equal-requires-clause-right : goal.not_equal-requires-clause-right
not_equal-requires-clause-right c = thm_stays _ _ _ (extends_trans _ _ _ c.equal_first.ensures.kept c.equal_second.ensures.kept) c.requires.right

pub not_equal-requires-clause-right_false : goal.not_equal-requires-clause-right_false
not_equal-requires-clause-right_false c = stays_false _ _ c.args.right.0 (extends_trans _ _ _ c.equal_first.ensures.kept c.equal_second.ensures.kept) c.requires.right c.requires.right_false

pub returns-in_err-denied : goal.returns-in_err-denied
returns-in_err-denied c = record { kept = extends_trans _ _ _ (extends_trans _ _ _ c.equal_first.ensures.kept c.equal_second.ensures.kept) c.not_equal.ensures.kept }

pub returns : goal.returns
returns c = record { kept = extends_trans _ _ _ (extends_trans _ _ _ c.equal_first.ensures.kept c.equal_second.ensures.kept) c.not_equal.ensures.kept }
