use Rattle.std.proofs.Common.{ap}
use Rattle.hol_kernel.proofs.Growing.{extends_trans, thm_stays}
use Rattle.hol_derived.proofs.Splits.{formula_stays}
use Rattle.hol_refutations.proofs.Steps.{stays_false}
use Rattle.logic_tests.proofs.refutations.calls_are_told.Goals as goal

pub atom-requires : goal.atom-requires
atom-requires c = record { a = c.requires.a }

pub atom-requires-2 : goal.atom-requires-2
atom-requires-2 c = record { a = formula_stays _ _ c.args.b.now c.atom.ensures.kept c.requires.b }

pub wholes_are_told-requires-clause-a : goal.wholes_are_told-requires-clause-a
wholes_are_told-requires-clause-a c = formula_stays _ _ c.args.a.now (extends_trans _ _ _ c.atom.ensures.kept c.atom-2.ensures.kept) c.requires.a

pub wholes_are_told-requires-clause-b : goal.wholes_are_told-requires-clause-b
wholes_are_told-requires-clause-b c = formula_stays _ _ c.args.b.now (extends_trans _ _ _ c.atom.ensures.kept c.atom-2.ensures.kept) c.requires.b

pub wholes_are_told-requires-clause-whole : goal.wholes_are_told-requires-clause-whole
wholes_are_told-requires-clause-whole c = formula_stays _ _ _ (extends_trans _ _ _ c.atom.ensures.kept c.atom-2.ensures.kept) c.requires.whole

pub wholes_are_told-requires-clause-left : goal.wholes_are_told-requires-clause-left
wholes_are_told-requires-clause-left c = thm_stays _ _ _ c.atom-2.ensures.kept c.in_ok-left.ensures.gives.is_thm

pub wholes_are_told-requires-clause-left_false : goal.wholes_are_told-requires-clause-left_false
wholes_are_told-requires-clause-left_false c = stays_false _ _ c.in_ok-left.left.0 c.atom-2.ensures.kept c.in_ok-left.ensures.gives.is_thm (ap (λ q. q.concl) c.in_ok-left.ensures.gives.is)

pub wholes_are_told-requires-clause-right : goal.wholes_are_told-requires-clause-right
wholes_are_told-requires-clause-right c = c.in_ok-right.ensures.gives.is_thm

pub wholes_are_told-requires-clause-right_false : goal.wholes_are_told-requires-clause-right_false
wholes_are_told-requires-clause-right_false c = ap (λ q. q.concl) c.in_ok-right.ensures.gives.is

pub returns-in_err-left : goal.returns-in_err-left
returns-in_err-left c = record { kept = c.atom.ensures.kept }

pub returns-in_err-right : goal.returns-in_err-right
returns-in_err-right c = record { kept = extends_trans _ _ _ c.atom.ensures.kept c.atom-2.ensures.kept }

pub returns-in_err-wholes : goal.returns-in_err-wholes
returns-in_err-wholes c = record { kept = extends_trans _ _ _ (extends_trans _ _ _ c.atom.ensures.kept c.atom-2.ensures.kept) c.wholes_are_told.ensures.kept }

pub returns : goal.returns
returns c = record { kept = extends_trans _ _ _ (extends_trans _ _ _ c.atom.ensures.kept c.atom-2.ensures.kept) c.wholes_are_told.ensures.kept }
