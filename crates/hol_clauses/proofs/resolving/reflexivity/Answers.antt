use Rattle.std.proofs.Common.{◌∙◌}
use Rattle.hol_kernel.proofs.Growing.{extends_trans, thm_stays}
use Rattle.hol_kernel.proofs.Making.{err_free}
use Rattle.hol_derived.proofs.Cuts.{gives_as}
use Rattle.hol_clauses.proofs.Resolvents.{reflexive_is}
use Rattle.hol_clauses.proofs.resolving.reflexivity.Goals as goal

pub refl-requires : goal.refl-requires
refl-requires c = c.requires.t

pub returns-in_err-same-clause-kept : goal.returns-in_err-same-clause-kept
returns-in_err-same-clause-kept c = c.refl.ensures.kept

pub returns-in_err-same-clause-facts : goal.returns-in_err-same-clause-facts
returns-in_err-same-clause-facts c = c.refl.ensures.facts

pub returns-in_err-same-clause-gives : goal.returns-in_err-same-clause-gives
returns-in_err-same-clause-gives c = err_free c.from_residual.result _ c.from_residual.ensures.0

pub cut-requires-clause-a : goal.cut-requires-clause-a
cut-requires-clause-a c = c.in_ok-same.ensures.gives.is_thm

pub cut-requires-clause-c : goal.cut-requires-clause-c
cut-requires-clause-c c = thm_stays _ _ _ c.refl.ensures.kept c.requires.th

pub returns-clause-kept : goal.returns-clause-kept
returns-clause-kept c = extends_trans _ _ _ c.refl.ensures.kept c.cut.ensures.kept

pub returns-clause-facts : goal.returns-clause-facts
returns-clause-facts c = c.cut.ensures.facts ∙ c.refl.ensures.facts

pub returns-clause-gives : goal.returns-clause-gives
returns-clause-gives c =
    gives_as c.cut.result c.cut.new.log _ _ (reflexive_is c.args.log.now c.refl.new.self c.args.th.0 c.in_ok-same.same.0 c.refl.ensures.kept c.requires.th _ c.in_ok-same.ensures.gives) c.cut.ensures.gives
