use Rattle.std.proofs.Common.{◌∙◌, ap}
use Rattle.hol_kernel.proofs.Growing.{extends_trans}
use Rattle.hol_kernel.proofs.Making.{err_free}
use Rattle.hol_derived.proofs.Cuts.{gives_as}
use Rattle.hol_refutations.proofs.Steps.{denied_seq}
use Rattle.hol_refutations.proofs.equality.not_equal.Goals as goal

pub alike-requires-clause-a : goal.alike-requires-clause-a
alike-requires-clause-a c = c.requires.a

pub alike-requires-clause-b : goal.alike-requires-clause-b
alike-requires-clause-b c = c.requires.b

pub alike-requires-clause-left : goal.alike-requires-clause-left
alike-requires-clause-left c = c.requires.left

pub alike-requires-clause-right : goal.alike-requires-clause-right
alike-requires-clause-right c = c.requires.right

pub alike-requires-clause-left_false : goal.alike-requires-clause-left_false
alike-requires-clause-left_false c = c.requires.left_false

pub alike-requires-clause-right_false : goal.alike-requires-clause-right_false
alike-requires-clause-right_false c = c.requires.right_false

pub denied-requires : goal.denied-requires
denied-requires c = c.in_ok-whole.ensures.gives.is_thm

pub returns-in_err-whole-clause-kept : goal.returns-in_err-whole-clause-kept
returns-in_err-whole-clause-kept c = c.alike.ensures.kept

pub returns-in_err-whole-clause-facts : goal.returns-in_err-whole-clause-facts
returns-in_err-whole-clause-facts c = c.alike.ensures.facts

pub returns-in_err-whole-clause-gives : goal.returns-in_err-whole-clause-gives
returns-in_err-whole-clause-gives c = err_free c.from_residual.result _ c.from_residual.ensures.0

pub returns-clause-kept : goal.returns-clause-kept
returns-clause-kept c = extends_trans _ _ _ c.alike.ensures.kept c.denied.ensures.kept

pub returns-clause-facts : goal.returns-clause-facts
returns-clause-facts c = c.denied.ensures.facts ∙ c.alike.ensures.facts

pub returns-clause-gives : goal.returns-clause-gives
returns-clause-gives c = gives_as c.denied.result c.denied.new.log _ _ (ap denied_seq c.in_ok-whole.ensures.gives.is) c.denied.ensures.gives
