use Rattle.std.proofs.Common.{◌∙◌, ap}
use Rattle.hol_kernel.proofs.Growing.{extends_trans, thm_stays}
use Rattle.hol_kernel.proofs.Making.{err_free}
use Rattle.hol_derived.proofs.Cuts.{gives_as}
use Rattle.hol_derived.proofs.Splits.{formula_stays, middle_fits, middle_is}
use Rattle.hol_derived.proofs.splitting.excluded_middle.Goals as goal

pub deny-requires : goal.deny-requires
deny-requires c = c.requires

pub returns-in_err-against-clause-kept : goal.returns-in_err-against-clause-kept
returns-in_err-against-clause-kept c = c.deny.ensures.kept

pub returns-in_err-against-clause-gives : goal.returns-in_err-against-clause-gives
returns-in_err-against-clause-gives c = err_free c.from_residual.result _ c.from_residual.ensures.0

pub denied-requires-clause-p : goal.denied-requires-clause-p
denied-requires-clause-p c = formula_stays c.args.log.now c.deny.new.log c.args.p.now c.deny.ensures.kept c.requires

pub denied-requires-clause-against : goal.denied-requires-clause-against
denied-requires-clause-against c = c.in_ok-against.ensures.gives.is_thm

pub denied-requires-clause-denies : goal.denied-requires-clause-denies
denied-requires-clause-denies c = ap (λ q. q.concl) c.in_ok-against.ensures.gives.is

pub returns-in_err-other-clause-kept : goal.returns-in_err-other-clause-kept
returns-in_err-other-clause-kept c = extends_trans _ _ _ c.deny.ensures.kept c.denied.ensures.kept

pub returns-in_err-other-clause-gives : goal.returns-in_err-other-clause-gives
returns-in_err-other-clause-gives c = err_free c.from_residual-in_err-other.result _ c.from_residual-in_err-other.ensures.0

pub not_elim-requires-clause-na : goal.not_elim-requires-clause-na
not_elim-requires-clause-na c = thm_stays _ _ _ c.denied.ensures.kept c.in_ok-against.ensures.gives.is_thm

pub not_elim-requires-clause-a : goal.not_elim-requires-clause-a
not_elim-requires-clause-a c = c.in_ok-other.ensures.gives.is_thm

pub not_elim-requires-clause-fits : goal.not_elim-requires-clause-fits
not_elim-requires-clause-fits c =
    middle_fits c.deny.new.log c.denied.new.log c.in_ok-against.against.0 c.in_ok-other.other.0 c.args.p.now c.denied.ensures.kept c.in_ok-against.ensures.gives c.in_ok-other.ensures.gives

pub returns-in_err-refuted-clause-kept : goal.returns-in_err-refuted-clause-kept
returns-in_err-refuted-clause-kept c = extends_trans _ _ _ (extends_trans _ _ _ c.deny.ensures.kept c.denied.ensures.kept) c.not_elim.ensures.kept

pub returns-in_err-refuted-clause-gives : goal.returns-in_err-refuted-clause-gives
returns-in_err-refuted-clause-gives c = err_free c.from_residual-in_err-refuted.result _ c.from_residual-in_err-refuted.ensures.0

pub conclude-requires-clause-p : goal.conclude-requires-clause-p
conclude-requires-clause-p c =
    formula_stays c.args.log.now c.not_elim.new.self c.args.p.now (extends_trans _ _ _ (extends_trans _ _ _ c.deny.ensures.kept c.denied.ensures.kept) c.not_elim.ensures.kept) c.requires

pub conclude-requires-clause-refuted : goal.conclude-requires-clause-refuted
conclude-requires-clause-refuted c = c.in_ok-refuted.ensures.gives.is_thm

pub conclude-requires-clause-fits : goal.conclude-requires-clause-fits
conclude-requires-clause-fits c = ap (λ q. q.concl) c.in_ok-refuted.ensures.gives.is

pub returns-clause-kept : goal.returns-clause-kept
returns-clause-kept c =
    extends_trans _ _ _ (extends_trans _ _ _ (extends_trans _ _ _ c.deny.ensures.kept c.denied.ensures.kept) c.not_elim.ensures.kept) c.conclude.ensures.kept

pub returns-clause-gives : goal.returns-clause-gives
returns-clause-gives c =
    gives_as c.conclude.result c.conclude.new.log _ _ (middle_is c.deny.new.log c.denied.new.log c.in_ok-against.against.0 c.in_ok-other.other.0 c.args.p.now c.denied.ensures.kept c.in_ok-against.ensures.gives c.in_ok-other.ensures.gives c.not_elim.new.self c.in_ok-refuted.refuted.0 c.in_ok-refuted.ensures.gives) c.conclude.ensures.gives

pub returns-in_err-against-clause-facts : goal.returns-in_err-against-clause-facts
returns-in_err-against-clause-facts c = c.deny.ensures.facts

pub returns-in_err-other-clause-facts : goal.returns-in_err-other-clause-facts
returns-in_err-other-clause-facts c = c.denied.ensures.facts ∙ c.deny.ensures.facts

pub returns-in_err-refuted-clause-facts : goal.returns-in_err-refuted-clause-facts
returns-in_err-refuted-clause-facts c = c.not_elim.ensures.facts ∙ (c.denied.ensures.facts ∙ c.deny.ensures.facts)

pub returns-clause-facts : goal.returns-clause-facts
returns-clause-facts c = c.conclude.ensures.facts ∙ (c.not_elim.ensures.facts ∙ (c.denied.ensures.facts ∙ c.deny.ensures.facts))
