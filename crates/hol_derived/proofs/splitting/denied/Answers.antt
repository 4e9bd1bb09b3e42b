use Rattle.std.proofs.Common.{◌∙◌, ap}
use Rattle.hol_kernel.proofs.Growing.{extends_trans}
use Rattle.hol_kernel.proofs.Making.{err_free}
use Rattle.hol_derived.proofs.Cuts.{gives_as}
use Rattle.hol_derived.proofs.Splits.{formula_stays, denied_is}
use Rattle.hol_derived.proofs.splitting.denied.Goals as goal

pub clash-requires-clause-p : goal.clash-requires-clause-p
clash-requires-clause-p c = c.requires.p

pub clash-requires-clause-against : goal.clash-requires-clause-against
clash-requires-clause-against c = c.requires.against

pub clash-requires-clause-denies : goal.clash-requires-clause-denies
clash-requires-clause-denies c = c.requires.denies

pub returns-in_err-refuted-clause-kept : goal.returns-in_err-refuted-clause-kept
returns-in_err-refuted-clause-kept c = c.clash.ensures.kept

pub returns-in_err-refuted-clause-gives : goal.returns-in_err-refuted-clause-gives
returns-in_err-refuted-clause-gives c = err_free c.from_residual.result _ c.from_residual.ensures.0

pub not_intro-requires-clause-t : goal.not_intro-requires-clause-t
not_intro-requires-clause-t c = formula_stays c.args.log.now c.clash.new.log c.args.p.now c.clash.ensures.kept c.requires.p

pub not_intro-requires-clause-a : goal.not_intro-requires-clause-a
not_intro-requires-clause-a c = c.in_ok-refuted.ensures.gives.is_thm

pub not_intro-requires-clause-fits : goal.not_intro-requires-clause-fits
not_intro-requires-clause-fits c = ap (λ q. q.concl) c.in_ok-refuted.ensures.gives.is

pub returns-in_err-absent-clause-kept : goal.returns-in_err-absent-clause-kept
returns-in_err-absent-clause-kept c = extends_trans _ _ _ c.clash.ensures.kept c.not_intro.ensures.kept

pub returns-in_err-absent-clause-gives : goal.returns-in_err-absent-clause-gives
returns-in_err-absent-clause-gives c = err_free c.from_residual-in_err-absent.result _ c.from_residual-in_err-absent.ensures.0

pub or_right-requires-clause-t : goal.or_right-requires-clause-t
or_right-requires-clause-t c = formula_stays c.args.log.now c.not_intro.new.self c.args.p.now (extends_trans _ _ _ c.clash.ensures.kept c.not_intro.ensures.kept) c.requires.p

pub or_right-requires-clause-b : goal.or_right-requires-clause-b
or_right-requires-clause-b c = c.in_ok-absent.ensures.gives.is_thm

pub returns-clause-kept : goal.returns-clause-kept
returns-clause-kept c = extends_trans _ _ _ (extends_trans _ _ _ c.clash.ensures.kept c.not_intro.ensures.kept) c.or_right.ensures.kept

pub returns-clause-gives : goal.returns-clause-gives
returns-clause-gives c =
    gives_as c.or_right.result c.or_right.new.self _ _ (denied_is c.clash.new.log c.not_intro.new.self c.in_ok-refuted.refuted.0 c.in_ok-absent.absent.0 c.args.p.now _ c.in_ok-refuted.ensures.gives c.in_ok-absent.ensures.gives) c.or_right.ensures.gives

pub returns-in_err-refuted-clause-facts : goal.returns-in_err-refuted-clause-facts
returns-in_err-refuted-clause-facts c = c.clash.ensures.facts

pub returns-in_err-absent-clause-facts : goal.returns-in_err-absent-clause-facts
returns-in_err-absent-clause-facts c = c.not_intro.ensures.facts ∙ c.clash.ensures.facts

pub returns-clause-facts : goal.returns-clause-facts
returns-clause-facts c = c.or_right.ensures.facts ∙ (c.not_intro.ensures.facts ∙ c.clash.ensures.facts)
