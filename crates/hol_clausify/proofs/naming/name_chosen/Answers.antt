use Rattle.std.proofs.Common.{refl}
use Rattle.hol_kernel.proofs.Growing.{extends_refl}
use Rattle.hol_kernel.proofs.Making.{err_free}
use Rattle.hol_clausify.proofs.naming.name_chosen.Goals as goal

pub contracted-name-requires-clause-whole : goal.contracted-name-requires-clause-whole
contracted-name-requires-clause-whole c = c.requires

pub contracted-name-requires-clause-chosen : goal.contracted-name-requires-clause-chosen
contracted-name-requires-clause-chosen c = c.in_ok-naming.ensures.chosen

pub contracted-name-requires-clause-equation : goal.contracted-name-requires-clause-equation
contracted-name-requires-clause-equation c = c.in_ok-naming.ensures.equation

pub contracted-name-requires-clause-paths : goal.contracted-name-requires-clause-paths
contracted-name-requires-clause-paths c = c.in_ok-naming.ensures.paths

pub returns-in_err-naming-clause-kept : goal.returns-in_err-naming-clause-kept
returns-in_err-naming-clause-kept c = extends_refl c.args.log.now

pub returns-in_err-naming-clause-facts : goal.returns-in_err-naming-clause-facts
returns-in_err-naming-clause-facts c = refl

pub returns-in_err-naming-clause-gives : goal.returns-in_err-naming-clause-gives
returns-in_err-naming-clause-gives c = err_free c.from_residual.result _ c.from_residual.ensures.0

pub returns-clause-kept : goal.returns-clause-kept
returns-clause-kept c = c.contracted-name.ensures.kept

pub returns-clause-facts : goal.returns-clause-facts
returns-clause-facts c = c.contracted-name.ensures.facts

pub returns-clause-gives : goal.returns-clause-gives
returns-clause-gives c = c.contracted-name.ensures.gives
