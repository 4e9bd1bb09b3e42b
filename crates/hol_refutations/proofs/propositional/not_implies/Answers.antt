use Rattle.std.proofs.Common.{◌∙◌, ap}
use Rattle.hol_kernel.proofs.Growing.{extends_trans}
use Rattle.hol_kernel.proofs.Making.{err_free}
use Rattle.hol_derived.proofs.Cuts.{gives_as}
use Rattle.hol_refutations.proofs.Steps.{denied_seq}
use Rattle.hol_refutations.proofs.propositional.not_implies.Goals as goal

pub implied-requires-clause-a : goal.implied-requires-clause-a
implied-requires-clause-a c = c.requires.a

pub implied-requires-clause-b : goal.implied-requires-clause-b
implied-requires-clause-b c = c.requires.b

pub implied-requires-clause-th : goal.implied-requires-clause-th
implied-requires-clause-th c = c.requires.th

pub implied-requires-clause-refuted : goal.implied-requires-clause-refuted
implied-requires-clause-refuted c = c.requires.refuted

pub denied-requires : goal.denied-requires
denied-requires c = c.in_ok-whole.ensures.gives.is_thm

pub returns-in_err-whole-clause-kept : goal.returns-in_err-whole-clause-kept
returns-in_err-whole-clause-kept c = c.implied.ensures.kept

pub returns-in_err-whole-clause-facts : goal.returns-in_err-whole-clause-facts
returns-in_err-whole-clause-facts c = c.implied.ensures.facts

pub returns-in_err-whole-clause-gives : goal.returns-in_err-whole-clause-gives
returns-in_err-whole-clause-gives c = err_free c.from_residual.result _ c.from_residual.ensures.0

pub returns-clause-kept : goal.returns-clause-kept
returns-clause-kept c = extends_trans _ _ _ c.implied.ensures.kept c.denied.ensures.kept

pub returns-clause-facts : goal.returns-clause-facts
returns-clause-facts c = c.denied.ensures.facts ∙ c.implied.ensures.facts

pub returns-clause-gives : goal.returns-clause-gives
returns-clause-gives c = gives_as c.denied.result c.denied.new.log _ _ (ap denied_seq c.in_ok-whole.ensures.gives.is) c.denied.ensures.gives
