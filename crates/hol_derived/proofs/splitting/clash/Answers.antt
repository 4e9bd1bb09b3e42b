use Rattle.std.proofs.Common.{refl, ◌∙◌}
use Rattle.hol_kernel.proofs.Growing.{extends_refl, extends_trans, thm_stays}
use Rattle.hol_kernel.proofs.Making.{err_free}
use Rattle.hol_derived.proofs.Cuts.{gives_as}
use Rattle.hol_derived.proofs.Splits.{neg_stays, clash_fits, clash_is}
use Rattle.hol_derived.proofs.splitting.clash.Goals as goal

pub returns-in_err-other-clause-kept : goal.returns-in_err-other-clause-kept
returns-in_err-other-clause-kept c = extends_refl c.args.log.now

pub returns-in_err-other-clause-gives : goal.returns-in_err-other-clause-gives
returns-in_err-other-clause-gives c = err_free c.from_residual.result _ c.from_residual.ensures.0

pub assume-requires : goal.assume-requires
assume-requires c = c.requires.p

pub returns-in_err-holds-clause-kept : goal.returns-in_err-holds-clause-kept
returns-in_err-holds-clause-kept c = c.assume.ensures.kept

pub returns-in_err-holds-clause-gives : goal.returns-in_err-holds-clause-gives
returns-in_err-holds-clause-gives c = err_free c.from_residual-in_err-holds.result _ c.from_residual-in_err-holds.ensures.0

pub or_left_own-requires-clause-t : goal.or_left_own-requires-clause-t
or_left_own-requires-clause-t c = neg_stays c.args.log.now c.assume.new.self c.args.p.now c.in_ok-other.other c.assume.ensures.kept c.in_ok-other.ensures c.requires.p

pub or_left_own-requires-clause-a : goal.or_left_own-requires-clause-a
or_left_own-requires-clause-a c = c.in_ok-holds.ensures.gives.is_thm

pub returns-in_err-either-clause-kept : goal.returns-in_err-either-clause-kept
returns-in_err-either-clause-kept c = extends_trans _ _ _ c.assume.ensures.kept c.or_left_own.ensures.kept

pub returns-in_err-either-clause-gives : goal.returns-in_err-either-clause-gives
returns-in_err-either-clause-gives c = err_free c.from_residual-in_err-either.result _ c.from_residual-in_err-either.ensures.0

pub not_elim-requires-clause-na : goal.not_elim-requires-clause-na
not_elim-requires-clause-na c = thm_stays _ _ _ (extends_trans _ _ _ c.assume.ensures.kept c.or_left_own.ensures.kept) c.requires.against

pub not_elim-requires-clause-a : goal.not_elim-requires-clause-a
not_elim-requires-clause-a c = c.in_ok-either.ensures.gives.is_thm

pub not_elim-requires-clause-fits : goal.not_elim-requires-clause-fits
not_elim-requires-clause-fits c =
    clash_fits c.args.log.now c.assume.new.self c.or_left_own.new.self c.args.against.0 c.in_ok-holds.holds.0 c.in_ok-either.either.0 c.args.p.now c.in_ok-other.other c.assume.ensures.kept c.or_left_own.ensures.kept c.requires.against c.in_ok-other.ensures c.in_ok-holds.ensures.gives c.in_ok-either.ensures.gives c.requires.denies

pub returns-clause-kept : goal.returns-clause-kept
returns-clause-kept c = extends_trans _ _ _ (extends_trans _ _ _ c.assume.ensures.kept c.or_left_own.ensures.kept) c.not_elim.ensures.kept

pub returns-clause-gives : goal.returns-clause-gives
returns-clause-gives c =
    gives_as c.not_elim.result c.not_elim.new.self _ _ (clash_is c.args.log.now c.assume.new.self c.or_left_own.new.self c.args.against.0 c.in_ok-holds.holds.0 c.in_ok-either.either.0 c.args.p.now c.in_ok-other.other c.assume.ensures.kept c.or_left_own.ensures.kept c.requires.against c.in_ok-other.ensures c.in_ok-holds.ensures.gives c.in_ok-either.ensures.gives) c.not_elim.ensures.gives

pub returns-in_err-other-clause-facts : goal.returns-in_err-other-clause-facts
returns-in_err-other-clause-facts c = refl

pub returns-in_err-holds-clause-facts : goal.returns-in_err-holds-clause-facts
returns-in_err-holds-clause-facts c = c.assume.ensures.facts

pub returns-in_err-either-clause-facts : goal.returns-in_err-either-clause-facts
returns-in_err-either-clause-facts c = c.or_left_own.ensures.facts ∙ c.assume.ensures.facts

pub returns-clause-facts : goal.returns-clause-facts
returns-clause-facts c = c.not_elim.ensures.facts ∙ (c.or_left_own.ensures.facts ∙ c.assume.ensures.facts)
