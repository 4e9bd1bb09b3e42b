use Rattle.std.proofs.Common.{◌∙◌, ap}
use Rattle.hol_kernel.proofs.Growing.{extends_trans}
use Rattle.hol_kernel.proofs.Making.{err_free}
use Rattle.hol_derived.proofs.Cuts.{gives_as}
use Rattle.hol_refutations.proofs.Steps.{denied_seq}
use Rattle.hol_refutations.proofs.propositional.not_and.Goals as goal

pub both-requires-clause-a : goal.both-requires-clause-a
both-requires-clause-a c = c.requires.a

pub both-requires-clause-b : goal.both-requires-clause-b
both-requires-clause-b c = c.requires.b

pub both-requires-clause-left : goal.both-requires-clause-left
both-requires-clause-left c = c.requires.left

pub both-requires-clause-right : goal.both-requires-clause-right
both-requires-clause-right c = c.requires.right

pub both-requires-clause-left_false : goal.both-requires-clause-left_false
both-requires-clause-left_false c = c.requires.left_false

pub both-requires-clause-right_false : goal.both-requires-clause-right_false
both-requires-clause-right_false c = c.requires.right_false

pub denied-requires : goal.denied-requires
denied-requires c = c.in_ok-whole.ensures.gives.is_thm

pub returns-in_err-whole-clause-kept : goal.returns-in_err-whole-clause-kept
returns-in_err-whole-clause-kept c = c.both.ensures.kept

pub returns-in_err-whole-clause-facts : goal.returns-in_err-whole-clause-facts
returns-in_err-whole-clause-facts c = c.both.ensures.facts

pub returns-in_err-whole-clause-gives : goal.returns-in_err-whole-clause-gives
returns-in_err-whole-clause-gives c = err_free c.from_residual.result _ c.from_residual.ensures.0

pub returns-clause-kept : goal.returns-clause-kept
returns-clause-kept c = extends_trans _ _ _ c.both.ensures.kept c.denied.ensures.kept

pub returns-clause-facts : goal.returns-clause-facts
returns-clause-facts c = c.denied.ensures.facts ∙ c.both.ensures.facts

pub returns-clause-gives : goal.returns-clause-gives
returns-clause-gives c = gives_as c.denied.result c.denied.new.log _ _ (ap denied_seq c.in_ok-whole.ensures.gives.is) c.denied.ensures.gives
