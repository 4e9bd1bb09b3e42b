use Rattle.std.proofs.Common.{◌∙◌}
use Rattle.hol_kernel.proofs.Growing.{extends_trans, thm_stays}
use Rattle.hol_kernel.proofs.Making.{err_free}
use Rattle.hol_derived.proofs.Cuts.{gives_as}
use Rattle.hol_clauses.proofs.Resolvents.{resolved_is}
use Rattle.hol_clauses.proofs.resolving.resolve.Goals as goal

pub not_intro-requires-clause-t : goal.not_intro-requires-clause-t
not_intro-requires-clause-t c = c.requires.a

pub not_intro-requires-clause-a : goal.not_intro-requires-clause-a
not_intro-requires-clause-a c = c.requires.right

pub not_intro-requires-clause-fits : goal.not_intro-requires-clause-fits
not_intro-requires-clause-fits c = c.requires.right_false

pub returns-in_err-denied-clause-kept : goal.returns-in_err-denied-clause-kept
returns-in_err-denied-clause-kept c = c.not_intro.ensures.kept

pub returns-in_err-denied-clause-facts : goal.returns-in_err-denied-clause-facts
returns-in_err-denied-clause-facts c = c.not_intro.ensures.facts

pub returns-in_err-denied-clause-gives : goal.returns-in_err-denied-clause-gives
returns-in_err-denied-clause-gives c = err_free c.from_residual.result _ c.from_residual.ensures.0

pub cut-requires-clause-a : goal.cut-requires-clause-a
cut-requires-clause-a c = c.in_ok-denied.ensures.gives.is_thm

pub cut-requires-clause-c : goal.cut-requires-clause-c
cut-requires-clause-c c = thm_stays _ _ _ c.not_intro.ensures.kept c.requires.left

pub returns-clause-kept : goal.returns-clause-kept
returns-clause-kept c = extends_trans _ _ _ c.not_intro.ensures.kept c.cut.ensures.kept

pub returns-clause-facts : goal.returns-clause-facts
returns-clause-facts c = c.cut.ensures.facts ∙ c.not_intro.ensures.facts

pub returns-clause-gives : goal.returns-clause-gives
returns-clause-gives c =
    gives_as c.cut.result c.cut.new.log _ _ (resolved_is c.args.log.now c.not_intro.new.self c.args.left.0 c.in_ok-denied.denied.0 c.not_intro.ensures.kept c.requires.left c.args.a.now _ c.requires.left_false c.in_ok-denied.ensures.gives)
    c.cut.ensures.gives
