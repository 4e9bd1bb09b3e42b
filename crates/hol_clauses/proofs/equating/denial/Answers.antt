use Rattle.std.proofs.Common.{refl, sym, ◌∙◌, ap, subst, IsTrue}
use Rattle.std.specs.FinSet as set
use Rattle.hol_terms.specs.Formulas.{IsFormula}
use Rattle.hyp_sets.specs.Sets.{only}
use Rattle.kernel_rules.specs.Connectives.{is_equal, neg, left_of}
use Rattle.kernel_rules.specs.Rules.{seq}
use Rattle.kernel_rules.proofs.TypedTerms.{neg_formula}
use Rattle.hol_kernel.specs.Logs.{thm}
use Rattle.hol_kernel.proofs.Growing.{extends_refl, extends_trans, thm_stays}
use Rattle.hol_kernel.proofs.Making.{err_free}
use Rattle.hol_derived.proofs.Cuts.{gives_as}
use Rattle.hol_derived.proofs.Splits.{formula_stays}
use Rattle.hol_clauses.proofs.Rewritten.{}
use Rattle.hol_clauses.proofs.equating.denial.Goals as goal

pub conclusion-requires : goal.conclusion-requires
conclusion-requires c = c.requires

pub returns-in_err-other-clause-kept : goal.returns-in_err-other-clause-kept
returns-in_err-other-clause-kept c = extends_refl c.args.log.now

pub returns-in_err-other-clause-facts : goal.returns-in_err-other-clause-facts
returns-in_err-other-clause-facts c = refl

pub returns-in_err-other-clause-gives : goal.returns-in_err-other-clause-gives
returns-in_err-other-clause-gives c = err_free c.from_residual.result _ c.from_residual.ensures.0

pub assume_own-requires : goal.assume_own-requires
assume_own-requires c = subst (IsFormula c.args.log.now.env.sig) (sym c.in_ok-other.ensures) (neg_formula c.args.log.now.env.sig c.conclusion.result.now c.conclusion.ensures.formula)

pub returns-clause-kept : goal.returns-clause-kept
returns-clause-kept c = c.assume_own.ensures.kept

pub returns-clause-facts : goal.returns-clause-facts
returns-clause-facts c = c.assume_own.ensures.facts

pub returns-clause-gives : goal.returns-clause-gives
returns-clause-gives c = gives_as c.assume_own.result c.assume_own.new.self _ _ (λ i. seq (only ((c.in_ok-other.ensures ∙ ap neg c.conclusion.ensures.value) i)) ((c.in_ok-other.ensures ∙ ap neg c.conclusion.ensures.value) i)) c.assume_own.ensures.gives
