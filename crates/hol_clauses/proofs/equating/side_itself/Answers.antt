use Rattle.std.proofs.Common.{refl, sym, ◌∙◌, ap, subst, IsTrue}
use Rattle.std.specs.FinSet as set
use Rattle.hol_terms.specs.Formulas.{IsFormula}
use Rattle.kernel_rules.specs.Connectives.{is_equal, neg, left_of}
use Rattle.kernel_rules.specs.Rules.{seq}
use Rattle.kernel_rules.proofs.TypedTerms.{neg_formula}
use Rattle.hol_kernel.specs.Logs.{thm}
use Rattle.hol_kernel.proofs.Growing.{extends_refl, extends_trans, thm_stays}
use Rattle.hol_kernel.proofs.Making.{err_free}
use Rattle.hol_derived.proofs.Cuts.{gives_as}
use Rattle.hol_derived.proofs.Splits.{formula_stays}
use Rattle.hol_clauses.proofs.Rewritten.{side_given, side_equal}
use Rattle.hol_clauses.proofs.equating.side_itself.Goals as goal

pub conclusion-requires : goal.conclusion-requires
conclusion-requires c = c.requires.eq

pub returns-in_err-side-clause-kept : goal.returns-in_err-side-clause-kept
returns-in_err-side-clause-kept c = extends_refl c.args.log.now

pub returns-in_err-side-clause-facts : goal.returns-in_err-side-clause-facts
returns-in_err-side-clause-facts c = refl

pub returns-in_err-side-clause-gives : goal.returns-in_err-side-clause-gives
returns-in_err-side-clause-gives c = err_free c.from_residual.result _ c.from_residual.ensures.0

pub refl-same-requires : goal.refl-same-requires
refl-same-requires c = side_given c.args.log.now.env.sig (thm c.args.log.now c.args.eq.0).concl c.in_ok-side.side (c.in_ok-side.ensures ∙ c.left.ensures ∙ ap left_of c.conclusion.ensures.value) (subst (IsFormula c.args.log.now.env.sig) c.conclusion.ensures.value c.conclusion.ensures.formula) c.requires.is

pub returns-clause-kept : goal.returns-clause-kept
returns-clause-kept c = c.refl-same.ensures.kept

pub returns-clause-facts : goal.returns-clause-facts
returns-clause-facts c = c.refl-same.ensures.facts

pub returns-clause-gives : goal.returns-clause-gives
returns-clause-gives c = gives_as c.refl-same.result c.refl-same.new.self _ _ (side_equal c.args.log.now.env.sig (thm c.args.log.now c.args.eq.0).concl c.in_ok-side.side (c.in_ok-side.ensures ∙ c.left.ensures ∙ ap left_of c.conclusion.ensures.value) (subst (IsFormula c.args.log.now.env.sig) c.conclusion.ensures.value c.conclusion.ensures.formula) c.requires.is) c.refl-same.ensures.gives
