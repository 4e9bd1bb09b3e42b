use Rattle.std.proofs.Common.{◌∙◌}
use Rattle.hol_kernel.proofs.Making.{err_free}
use Rattle.hol_clausify.proofs.OpenedValues.{chosen_opened}
use Rattle.hol_clausify.proofs.values.open_chosen.Goals as goal

pub name-requires-clause-whole : goal.name-requires-clause-whole
name-requires-clause-whole c = c.requires.whole

pub name-requires-clause-property : goal.name-requires-clause-property
name-requires-clause-property c = c.requires.property

pub open_named-requires : goal.open_named-requires
open_named-requires c = c.in_ok-name.ensures.gives.is_thm

pub returns-in_err-name-clause-kept : goal.returns-in_err-name-clause-kept
returns-in_err-name-clause-kept c = c.name.ensures.kept

pub returns-in_err-name-clause-facts : goal.returns-in_err-name-clause-facts
returns-in_err-name-clause-facts c = c.name.ensures.facts

pub returns-in_err-name-clause-gives : goal.returns-in_err-name-clause-gives
returns-in_err-name-clause-gives c = err_free c.from_residual.result _ c.from_residual.ensures.0

pub returns-clause-kept : goal.returns-clause-kept
returns-clause-kept c = c.name.ensures.kept

pub returns-clause-facts : goal.returns-clause-facts
returns-clause-facts c = c.name.ensures.facts

pub returns-clause-gives : goal.returns-clause-gives
returns-clause-gives c =
    chosen_opened c.name.new.log c.args.quantifier c.args.ty.now c.args.body.now c.in_ok-name.name c.open_named.result c.in_ok-name.ensures.gives c.open_named.ensures.value c.open_named.ensures.part c.open_named.ensures.name
