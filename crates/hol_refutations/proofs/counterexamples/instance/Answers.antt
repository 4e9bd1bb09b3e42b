use Rattle.std.proofs.Common.{refl, sym, ◌∙◌, ap, subst}
use Rattle.hol_terms.specs.Formulas.{IsFormula}
use Rattle.hyp_sets.specs.Sets.{only}
use Rattle.kernel_rules.specs.Connectives.{neg, all, some, lambda}
use Rattle.kernel_rules.specs.Rules.{seq}
use Rattle.hol_kernel.proofs.Growing.{extends_refl, extends_trans}
use Rattle.hol_kernel.proofs.Making.{err_free}
use Rattle.hol_derived.proofs.Cuts.{gives_as}
use Rattle.hol_derived.proofs.Splits.{formula_stays}
use Rattle.hol_refutations.proofs.Failures.{denial_formula}
use Rattle.hol_refutations.proofs.counterexamples.instance.Goals as goal

pub assume_own-requires : goal.assume_own-requires
assume_own-requires c = subst (IsFormula c.args.log.now.env.sig) (sym c.in_ok-part.ensures) (denial_formula c.args.log.now.env.sig c.args.ty.now c.args.body.now c.requires c.args.n)

pub failing-requires-clause-whole : goal.failing-requires-clause-whole
failing-requires-clause-whole c = formula_stays c.args.log.now c.assume_own.new.self (all c.args.ty.now (lambda c.args.ty.now c.args.body.now)) c.assume_own.ensures.kept c.requires

pub failing-requires-clause-th : goal.failing-requires-clause-th
failing-requires-clause-th c = c.in_ok-fails.ensures.gives.is_thm

pub failing-requires-clause-is : goal.failing-requires-clause-is
failing-requires-clause-is c = ap (λ q. q.concl) c.in_ok-fails.ensures.gives.is ∙ c.in_ok-part.ensures

pub returns-in_err-part-clause-kept : goal.returns-in_err-part-clause-kept
returns-in_err-part-clause-kept c = extends_refl c.args.log.now

pub returns-in_err-part-clause-facts : goal.returns-in_err-part-clause-facts
returns-in_err-part-clause-facts c = refl

pub returns-in_err-part-clause-gives : goal.returns-in_err-part-clause-gives
returns-in_err-part-clause-gives c = err_free c.from_residual.result _ c.from_residual.ensures.0

pub returns-in_err-fails-clause-kept : goal.returns-in_err-fails-clause-kept
returns-in_err-fails-clause-kept c = c.assume_own.ensures.kept

pub returns-in_err-fails-clause-facts : goal.returns-in_err-fails-clause-facts
returns-in_err-fails-clause-facts c = c.assume_own.ensures.facts

pub returns-in_err-fails-clause-gives : goal.returns-in_err-fails-clause-gives
returns-in_err-fails-clause-gives c = err_free c.from_residual-in_err-fails.result _ c.from_residual-in_err-fails.ensures.0

pub returns-clause-kept : goal.returns-clause-kept
returns-clause-kept c = extends_trans _ _ _ c.assume_own.ensures.kept c.failing.ensures.kept

pub returns-clause-facts : goal.returns-clause-facts
returns-clause-facts c = c.failing.ensures.facts ∙ c.assume_own.ensures.facts

pub returns-clause-gives : goal.returns-clause-gives
returns-clause-gives c = gives_as c.failing.result c.failing.new.log _ _ (ap (λ q. seq q.hyps (some c.args.ty.now (lambda c.args.ty.now (neg c.args.body.now)))) c.in_ok-fails.ensures.gives.is ∙ ap (λ z. seq (only z) (some c.args.ty.now (lambda c.args.ty.now (neg c.args.body.now)))) c.in_ok-part.ensures) c.failing.ensures.gives
