use Rattle.std.proofs.Common.{◌∙◌, ap}
use Rattle.hol_kernel.proofs.Growing.{extends_trans}
use Rattle.hol_kernel.proofs.Making.{err_free}
use Rattle.hol_derived.proofs.Cuts.{gives_as}
use Rattle.hol_refutations.proofs.Steps.{denied_seq}
use Rattle.hol_refutations.proofs.propositional.not_not.Goals as goal

pub not_intro-requires-clause-t : goal.not_intro-requires-clause-t
not_intro-requires-clause-t c = c.requires.a

pub not_intro-requires-clause-a : goal.not_intro-requires-clause-a
not_intro-requires-clause-a c = c.requires.th

pub not_intro-requires-clause-fits : goal.not_intro-requires-clause-fits
not_intro-requires-clause-fits c = c.requires.refuted

pub denied-requires : goal.denied-requires
denied-requires c = c.in_ok-absent.ensures.gives.is_thm

pub returns-in_err-absent-clause-kept : goal.returns-in_err-absent-clause-kept
returns-in_err-absent-clause-kept c = c.not_intro.ensures.kept

pub returns-in_err-absent-clause-facts : goal.returns-in_err-absent-clause-facts
returns-in_err-absent-clause-facts c = c.not_intro.ensures.facts

pub returns-in_err-absent-clause-gives : goal.returns-in_err-absent-clause-gives
returns-in_err-absent-clause-gives c = err_free c.from_residual.result _ c.from_residual.ensures.0

pub returns-clause-kept : goal.returns-clause-kept
returns-clause-kept c = extends_trans _ _ _ c.not_intro.ensures.kept c.denied.ensures.kept

pub returns-clause-facts : goal.returns-clause-facts
returns-clause-facts c = c.denied.ensures.facts ∙ c.not_intro.ensures.facts

pub returns-clause-gives : goal.returns-clause-gives
returns-clause-gives c = gives_as c.denied.result c.denied.new.log _ _ (ap denied_seq c.in_ok-absent.ensures.gives.is) c.denied.ensures.gives
