use Rattle.std.proofs.Common.{◌∙◌}
use Rattle.hol_kernel.proofs.Growing.{extends_trans, thm_stays}
use Rattle.hol_kernel.proofs.Making.{err_free}
use Rattle.hol_derived.proofs.Cuts.{gives_as}
use Rattle.hol_derived.proofs.Splits.{cases_fits, cases_alike, cases_is}
use Rattle.hol_derived.proofs.splitting.cases.Goals as goal

pub excluded_middle-requires : goal.excluded_middle-requires
excluded_middle-requires c = c.requires.p

pub returns-in_err-either-clause-kept : goal.returns-in_err-either-clause-kept
returns-in_err-either-clause-kept c = c.excluded_middle.ensures.kept

pub returns-in_err-either-clause-gives : goal.returns-in_err-either-clause-gives
returns-in_err-either-clause-gives c = err_free c.from_residual.result _ c.from_residual.ensures.0

pub or_elim-requires-clause-ab : goal.or_elim-requires-clause-ab
or_elim-requires-clause-ab c = c.in_ok-either.ensures.gives.is_thm

pub or_elim-requires-clause-l : goal.or_elim-requires-clause-l
or_elim-requires-clause-l c = thm_stays _ _ _ c.excluded_middle.ensures.kept c.requires.yes

pub or_elim-requires-clause-r : goal.or_elim-requires-clause-r
or_elim-requires-clause-r c = thm_stays _ _ _ c.excluded_middle.ensures.kept c.requires.no

pub or_elim-requires-clause-fits : goal.or_elim-requires-clause-fits
or_elim-requires-clause-fits c =
    cases_fits c.args.log.now c.excluded_middle.new.log c.in_ok-either.either.0 c.args.yes.0 c.args.no.0 c.args.p.now c.excluded_middle.ensures.kept c.requires.yes c.requires.no c.in_ok-either.ensures.gives

pub or_elim-requires-clause-alike : goal.or_elim-requires-clause-alike
or_elim-requires-clause-alike c =
    cases_alike c.args.log.now c.excluded_middle.new.log c.in_ok-either.either.0 c.args.yes.0 c.args.no.0 c.args.p.now c.excluded_middle.ensures.kept c.requires.yes c.requires.no c.in_ok-either.ensures.gives c.requires.alike

pub returns-clause-kept : goal.returns-clause-kept
returns-clause-kept c = extends_trans _ _ _ c.excluded_middle.ensures.kept c.or_elim.ensures.kept

pub returns-clause-gives : goal.returns-clause-gives
returns-clause-gives c =
    gives_as c.or_elim.result c.or_elim.new.self _ _ (cases_is c.args.log.now c.excluded_middle.new.log c.in_ok-either.either.0 c.args.yes.0 c.args.no.0 c.args.p.now c.excluded_middle.ensures.kept c.requires.yes c.requires.no c.in_ok-either.ensures.gives) c.or_elim.ensures.gives

pub returns-in_err-either-clause-facts : goal.returns-in_err-either-clause-facts
returns-in_err-either-clause-facts c = c.excluded_middle.ensures.facts

pub returns-clause-facts : goal.returns-clause-facts
returns-clause-facts c = c.or_elim.ensures.facts ∙ c.excluded_middle.ensures.facts
