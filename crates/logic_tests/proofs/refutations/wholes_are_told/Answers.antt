use Rattle.hol_kernel.proofs.Growing.{extends_trans, thm_stays}
use Rattle.hol_derived.proofs.Splits.{formula_stays}
use Rattle.hol_refutations.proofs.Steps.{stays_false}
use Rattle.logic_tests.proofs.refutations.wholes_are_told.Goals as goal

pub units_are_told-requires-clause-a : goal.units_are_told-requires-clause-a
units_are_told-requires-clause-a c = c.requires.a

pub units_are_told-requires-clause-left : goal.units_are_told-requires-clause-left
units_are_told-requires-clause-left c = c.requires.left

pub units_are_told-requires-clause-left_false : goal.units_are_told-requires-clause-left_false
units_are_told-requires-clause-left_false c = c.requires.left_false

pub returns-in_err-units : goal.returns-in_err-units
returns-in_err-units c = record { kept = c.units_are_told.ensures.kept }

pub conjunctions_are_told-requires-clause-a : goal.conjunctions_are_told-requires-clause-a
conjunctions_are_told-requires-clause-a c = formula_stays _ _ c.args.a.now c.units_are_told.ensures.kept c.requires.a

pub conjunctions_are_told-requires-clause-b : goal.conjunctions_are_told-requires-clause-b
conjunctions_are_told-requires-clause-b c = formula_stays _ _ c.args.b.now c.units_are_told.ensures.kept c.requires.b

pub conjunctions_are_told-requires-clause-left : goal.conjunctions_are_told-requires-clause-left
conjunctions_are_told-requires-clause-left c = thm_stays _ _ _ c.units_are_told.ensures.kept c.requires.left

pub conjunctions_are_told-requires-clause-left_false : goal.conjunctions_are_told-requires-clause-left_false
conjunctions_are_told-requires-clause-left_false c = stays_false _ _ c.args.left.0 c.units_are_told.ensures.kept c.requires.left c.requires.left_false

pub conjunctions_are_told-requires-clause-right : goal.conjunctions_are_told-requires-clause-right
conjunctions_are_told-requires-clause-right c = thm_stays _ _ _ c.units_are_told.ensures.kept c.requires.right

pub conjunctions_are_told-requires-clause-right_false : goal.conjunctions_are_told-requires-clause-right_false
conjunctions_are_told-requires-clause-right_false c = stays_false _ _ c.args.right.0 c.units_are_told.ensures.kept c.requires.right c.requires.right_false

pub returns-in_err-conjunctions : goal.returns-in_err-conjunctions
returns-in_err-conjunctions c = record { kept = extends_trans _ _ _ c.units_are_told.ensures.kept c.conjunctions_are_told.ensures.kept }

pub disjunctions_are_told-requires-clause-a : goal.disjunctions_are_told-requires-clause-a
disjunctions_are_told-requires-clause-a c = formula_stays _ _ c.args.a.now (extends_trans _ _ _ c.units_are_told.ensures.kept c.conjunctions_are_told.ensures.kept) c.requires.a

pub disjunctions_are_told-requires-clause-b : goal.disjunctions_are_told-requires-clause-b
disjunctions_are_told-requires-clause-b c = formula_stays _ _ c.args.b.now (extends_trans _ _ _ c.units_are_told.ensures.kept c.conjunctions_are_told.ensures.kept) c.requires.b

pub disjunctions_are_told-requires-clause-left : goal.disjunctions_are_told-requires-clause-left
disjunctions_are_told-requires-clause-left c = thm_stays _ _ _ (extends_trans _ _ _ c.units_are_told.ensures.kept c.conjunctions_are_told.ensures.kept) c.requires.left

pub disjunctions_are_told-requires-clause-left_false : goal.disjunctions_are_told-requires-clause-left_false
disjunctions_are_told-requires-clause-left_false c = stays_false _ _ c.args.left.0 (extends_trans _ _ _ c.units_are_told.ensures.kept c.conjunctions_are_told.ensures.kept) c.requires.left c.requires.left_false

pub disjunctions_are_told-requires-clause-right : goal.disjunctions_are_told-requires-clause-right
disjunctions_are_told-requires-clause-right c = thm_stays _ _ _ (extends_trans _ _ _ c.units_are_told.ensures.kept c.conjunctions_are_told.ensures.kept) c.requires.right

pub disjunctions_are_told-requires-clause-right_false : goal.disjunctions_are_told-requires-clause-right_false
disjunctions_are_told-requires-clause-right_false c = stays_false _ _ c.args.right.0 (extends_trans _ _ _ c.units_are_told.ensures.kept c.conjunctions_are_told.ensures.kept) c.requires.right c.requires.right_false

pub returns-in_err-disjunctions : goal.returns-in_err-disjunctions
returns-in_err-disjunctions c = record { kept = extends_trans _ _ _ (extends_trans _ _ _ c.units_are_told.ensures.kept c.conjunctions_are_told.ensures.kept) c.disjunctions_are_told.ensures.kept }

pub implications_are_told-requires-clause-a : goal.implications_are_told-requires-clause-a
implications_are_told-requires-clause-a c = formula_stays _ _ c.args.a.now (extends_trans _ _ _ (extends_trans _ _ _ c.units_are_told.ensures.kept c.conjunctions_are_told.ensures.kept) c.disjunctions_are_told.ensures.kept) c.requires.a

pub implications_are_told-requires-clause-b : goal.implications_are_told-requires-clause-b
implications_are_told-requires-clause-b c = formula_stays _ _ c.args.b.now (extends_trans _ _ _ (extends_trans _ _ _ c.units_are_told.ensures.kept c.conjunctions_are_told.ensures.kept) c.disjunctions_are_told.ensures.kept) c.requires.b

pub implications_are_told-requires-clause-left : goal.implications_are_told-requires-clause-left
implications_are_told-requires-clause-left c = thm_stays _ _ _ (extends_trans _ _ _ (extends_trans _ _ _ c.units_are_told.ensures.kept c.conjunctions_are_told.ensures.kept) c.disjunctions_are_told.ensures.kept) c.requires.left

pub implications_are_told-requires-clause-left_false : goal.implications_are_told-requires-clause-left_false
implications_are_told-requires-clause-left_false c = stays_false _ _ c.args.left.0 (extends_trans _ _ _ (extends_trans _ _ _ c.units_are_told.ensures.kept c.conjunctions_are_told.ensures.kept) c.disjunctions_are_told.ensures.kept) c.requires.left c.requires.left_false

pub implications_are_told-requires-clause-right : goal.implications_are_told-requires-clause-right
implications_are_told-requires-clause-right c = thm_stays _ _ _ (extends_trans _ _ _ (extends_trans _ _ _ c.units_are_told.ensures.kept c.conjunctions_are_told.ensures.kept) c.disjunctions_are_told.ensures.kept) c.requires.right

pub implications_are_told-requires-clause-right_false : goal.implications_are_told-requires-clause-right_false
implications_are_told-requires-clause-right_false c = stays_false _ _ c.args.right.0 (extends_trans _ _ _ (extends_trans _ _ _ c.units_are_told.ensures.kept c.conjunctions_are_told.ensures.kept) c.disjunctions_are_told.ensures.kept) c.requires.right c.requires.right_false

pub returns-in_err-implications : goal.returns-in_err-implications
returns-in_err-implications c = record { kept = extends_trans _ _ _ (extends_trans _ _ _ (extends_trans _ _ _ c.units_are_told.ensures.kept c.conjunctions_are_told.ensures.kept) c.disjunctions_are_told.ensures.kept) c.implications_are_told.ensures.kept }

pub equations_are_told-requires-clause-a : goal.equations_are_told-requires-clause-a
equations_are_told-requires-clause-a c = formula_stays _ _ c.args.a.now (extends_trans _ _ _ (extends_trans _ _ _ (extends_trans _ _ _ c.units_are_told.ensures.kept c.conjunctions_are_told.ensures.kept) c.disjunctions_are_told.ensures.kept) c.implications_are_told.ensures.kept) c.requires.a

pub equations_are_told-requires-clause-b : goal.equations_are_told-requires-clause-b
equations_are_told-requires-clause-b c = formula_stays _ _ c.args.b.now (extends_trans _ _ _ (extends_trans _ _ _ (extends_trans _ _ _ c.units_are_told.ensures.kept c.conjunctions_are_told.ensures.kept) c.disjunctions_are_told.ensures.kept) c.implications_are_told.ensures.kept) c.requires.b

pub equations_are_told-requires-clause-left : goal.equations_are_told-requires-clause-left
equations_are_told-requires-clause-left c = thm_stays _ _ _ (extends_trans _ _ _ (extends_trans _ _ _ (extends_trans _ _ _ c.units_are_told.ensures.kept c.conjunctions_are_told.ensures.kept) c.disjunctions_are_told.ensures.kept) c.implications_are_told.ensures.kept) c.requires.left

pub equations_are_told-requires-clause-left_false : goal.equations_are_told-requires-clause-left_false
equations_are_told-requires-clause-left_false c = stays_false _ _ c.args.left.0 (extends_trans _ _ _ (extends_trans _ _ _ (extends_trans _ _ _ c.units_are_told.ensures.kept c.conjunctions_are_told.ensures.kept) c.disjunctions_are_told.ensures.kept) c.implications_are_told.ensures.kept) c.requires.left c.requires.left_false

pub equations_are_told-requires-clause-right : goal.equations_are_told-requires-clause-right
equations_are_told-requires-clause-right c = thm_stays _ _ _ (extends_trans _ _ _ (extends_trans _ _ _ (extends_trans _ _ _ c.units_are_told.ensures.kept c.conjunctions_are_told.ensures.kept) c.disjunctions_are_told.ensures.kept) c.implications_are_told.ensures.kept) c.requires.right

pub equations_are_told-requires-clause-right_false : goal.equations_are_told-requires-clause-right_false
equations_are_told-requires-clause-right_false c = stays_false _ _ c.args.right.0 (extends_trans _ _ _ (extends_trans _ _ _ (extends_trans _ _ _ c.units_are_told.ensures.kept c.conjunctions_are_told.ensures.kept) c.disjunctions_are_told.ensures.kept) c.implications_are_told.ensures.kept) c.requires.right c.requires.right_false

pub equations_are_told-requires-clause-whole : goal.equations_are_told-requires-clause-whole
equations_are_told-requires-clause-whole c = formula_stays _ _ _ (extends_trans _ _ _ (extends_trans _ _ _ (extends_trans _ _ _ c.units_are_told.ensures.kept c.conjunctions_are_told.ensures.kept) c.disjunctions_are_told.ensures.kept) c.implications_are_told.ensures.kept) c.requires.whole

pub returns-in_err-equations : goal.returns-in_err-equations
returns-in_err-equations c = record { kept = extends_trans _ _ _ (extends_trans _ _ _ (extends_trans _ _ _ (extends_trans _ _ _ c.units_are_told.ensures.kept c.conjunctions_are_told.ensures.kept) c.disjunctions_are_told.ensures.kept) c.implications_are_told.ensures.kept) c.equations_are_told.ensures.kept }

pub returns : goal.returns
returns c = record { kept = extends_trans _ _ _ (extends_trans _ _ _ (extends_trans _ _ _ (extends_trans _ _ _ c.units_are_told.ensures.kept c.conjunctions_are_told.ensures.kept) c.disjunctions_are_told.ensures.kept) c.implications_are_told.ensures.kept) c.equations_are_told.ensures.kept }
