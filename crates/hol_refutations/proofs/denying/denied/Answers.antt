use Rattle.std.proofs.Common.{refl, sym, ◌∙◌, ap, subst}
use Rattle.std.specs.FinSet as set
use Rattle.hol_terms.specs.Formulas.{IsFormula}
use Rattle.hyp_sets.specs.Sets.{only}
use Rattle.kernel_rules.specs.Connectives.{falsum, neg}
use Rattle.kernel_rules.specs.Rules.{seq}
use Rattle.kernel_rules.proofs.TypedTerms.{neg_formula}
use Rattle.hol_kernel.specs.Logs.{thm}
use Rattle.hol_kernel.proofs.Growing.{extends_refl, extends_trans, thm_stays}
use Rattle.hol_kernel.proofs.Making.{err_free}
use Rattle.hol_derived.proofs.Cuts.{gives_as}
use Rattle.hol_refutations.proofs.denying.denied.Goals as goal

pub conclusion-requires : goal.conclusion-requires
conclusion-requires c = c.requires

pub assume_own-requires : goal.assume_own-requires
assume_own-requires c = subst (IsFormula c.args.log.now.env.sig) (sym c.in_ok-other.ensures) (neg_formula c.args.log.now.env.sig c.conclusion.result.now c.conclusion.ensures.formula)

pub not_elim-requires-clause-na : goal.not_elim-requires-clause-na
not_elim-requires-clause-na c = c.in_ok-against.ensures.gives.is_thm

pub not_elim-requires-clause-a : goal.not_elim-requires-clause-a
not_elim-requires-clause-a c = thm_stays _ _ _ c.assume_own.ensures.kept c.requires

pub not_elim-requires-clause-fits : goal.not_elim-requires-clause-fits
not_elim-requires-clause-fits c = ap (λ q. q.concl) c.in_ok-against.ensures.gives.is ∙ (c.in_ok-other.ensures ∙ ap neg (c.conclusion.ensures.value ∙ sym (ap (λ q. q.concl) (c.assume_own.ensures.kept.earlier c.args.th.0 c.requires))))

pub returns-in_err-other-clause-kept : goal.returns-in_err-other-clause-kept
returns-in_err-other-clause-kept c = extends_refl c.args.log.now

pub returns-in_err-other-clause-facts : goal.returns-in_err-other-clause-facts
returns-in_err-other-clause-facts c = refl

pub returns-in_err-other-clause-gives : goal.returns-in_err-other-clause-gives
returns-in_err-other-clause-gives c = err_free c.from_residual.result _ c.from_residual.ensures.0

pub returns-in_err-against-clause-kept : goal.returns-in_err-against-clause-kept
returns-in_err-against-clause-kept c = c.assume_own.ensures.kept

pub returns-in_err-against-clause-facts : goal.returns-in_err-against-clause-facts
returns-in_err-against-clause-facts c = c.assume_own.ensures.facts

pub returns-in_err-against-clause-gives : goal.returns-in_err-against-clause-gives
returns-in_err-against-clause-gives c = err_free c.from_residual-in_err-against.result _ c.from_residual-in_err-against.ensures.0

pub returns-clause-kept : goal.returns-clause-kept
returns-clause-kept c = extends_trans _ _ _ c.assume_own.ensures.kept c.not_elim.ensures.kept

pub returns-clause-facts : goal.returns-clause-facts
returns-clause-facts c = c.not_elim.ensures.facts ∙ c.assume_own.ensures.facts

pub returns-clause-gives : goal.returns-clause-gives
returns-clause-gives c = gives_as c.not_elim.result c.not_elim.new.self _ _ ((λ i. seq (set.union ((c.in_ok-against.ensures.gives.is i).hyps) ((c.assume_own.ensures.kept.earlier c.args.th.0 c.requires i).hyps)) falsum) ∙ ap (λ z. seq (set.union (only z) (thm c.args.log.now c.args.th.0).hyps) falsum) (c.in_ok-other.ensures ∙ ap neg c.conclusion.ensures.value)) c.not_elim.ensures.gives
