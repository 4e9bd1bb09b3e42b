use Rattle.std.proofs.Common.{refl, sym, ◌∙◌, subst}
use Rattle.hol_terms.specs.Formulas.{IsFormula}
use Rattle.hol_kernel.proofs.Growing.{extends_refl, extends_trans, thm_stays}
use Rattle.hol_kernel.proofs.Making.{err_free}
use Rattle.hol_derived.proofs.Cuts.{gives_as, cut_fits, cut_is}
use Rattle.hol_derived.proofs.cutting.cut.Goals as goal

pub conclusion-requires : goal.conclusion-requires
conclusion-requires c = c.requires.a

pub returns-in_err-removed-clause-kept : goal.returns-in_err-removed-clause-kept
returns-in_err-removed-clause-kept c = extends_refl c.args.log.now

pub returns-in_err-removed-clause-gives : goal.returns-in_err-removed-clause-gives
returns-in_err-removed-clause-gives c = err_free c.from_residual.result _ c.from_residual.ensures.0

pub imp_intro_own-requires-clause-t : goal.imp_intro_own-requires-clause-t
imp_intro_own-requires-clause-t c = subst (IsFormula c.args.log.now.env.sig) (sym c.in_ok-removed.ensures) c.conclusion.ensures.formula

pub imp_intro_own-requires-clause-a : goal.imp_intro_own-requires-clause-a
imp_intro_own-requires-clause-a c = c.requires.c

pub returns-in_err-implied-clause-kept : goal.returns-in_err-implied-clause-kept
returns-in_err-implied-clause-kept c = c.imp_intro_own.ensures.kept

pub returns-in_err-implied-clause-gives : goal.returns-in_err-implied-clause-gives
returns-in_err-implied-clause-gives c = err_free c.from_residual-in_err-implied.result _ c.from_residual-in_err-implied.ensures.0

pub imp_elim-requires-clause-ab : goal.imp_elim-requires-clause-ab
imp_elim-requires-clause-ab c = c.in_ok-implied.ensures.gives.is_thm

pub imp_elim-requires-clause-a : goal.imp_elim-requires-clause-a
imp_elim-requires-clause-a c = thm_stays _ _ _ c.imp_intro_own.ensures.kept c.requires.a

pub imp_elim-requires-clause-fits : goal.imp_elim-requires-clause-fits
imp_elim-requires-clause-fits c =
    cut_fits c.args.log.now c.imp_intro_own.new.self c.args.a.0 c.args.c.0 c.in_ok-implied.implied.0 c.in_ok-removed.removed (c.in_ok-removed.ensures ∙ c.conclusion.ensures.value) c.imp_intro_own.ensures.kept c.requires.a
    c.in_ok-implied.ensures.gives

pub returns-clause-kept : goal.returns-clause-kept
returns-clause-kept c = extends_trans _ _ _ c.imp_intro_own.ensures.kept c.imp_elim.ensures.kept

pub returns-clause-gives : goal.returns-clause-gives
returns-clause-gives c =
    gives_as c.imp_elim.result c.imp_elim.new.self _ _
    (cut_is c.args.log.now c.imp_intro_own.new.self c.args.a.0 c.args.c.0 c.in_ok-implied.implied.0 c.in_ok-removed.removed (c.in_ok-removed.ensures ∙ c.conclusion.ensures.value) c.imp_intro_own.ensures.kept c.requires.a
    c.in_ok-implied.ensures.gives) c.imp_elim.ensures.gives

pub returns-in_err-removed-clause-facts : goal.returns-in_err-removed-clause-facts
returns-in_err-removed-clause-facts c = refl

pub returns-in_err-implied-clause-facts : goal.returns-in_err-implied-clause-facts
returns-in_err-implied-clause-facts c = c.imp_intro_own.ensures.facts

pub returns-clause-facts : goal.returns-clause-facts
returns-clause-facts c = c.imp_elim.ensures.facts ∙ c.imp_intro_own.ensures.facts
