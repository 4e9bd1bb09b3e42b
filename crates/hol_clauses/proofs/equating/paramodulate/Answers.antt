use Rattle.std.proofs.Common.{refl, sym, ◌∙◌, ap, subst, IsTrue}
use Rattle.std.specs.FinSet as set
use Rattle.hol_terms.specs.Formulas.{IsFormula}
use Rattle.kernel_rules.specs.Connectives.{is_equal, neg, left_of}
use Rattle.kernel_rules.specs.Rules.{seq}
use Rattle.kernel_rules.proofs.TypedTerms.{neg_formula}
use Rattle.hol_kernel.specs.Logs.{thm}
use Rattle.hol_kernel.proofs.Growing.{extends_refl, extends_trans, thm_stays}
use Rattle.hol_kernel.proofs.Making.{err_free}
use Rattle.hol_derived.proofs.Cuts.{gives_as}
use Rattle.hol_derived.proofs.Splits.{formula_stays}
use Rattle.hol_clauses.proofs.Rewritten.{para_equal, para_part, para_false, para_is}
use Rattle.hol_clauses.proofs.equating.paramodulate.Goals as goal

pub equation_of-requires-clause-e : goal.equation_of-requires-clause-e
equation_of-requires-clause-e c = c.requires.e

pub equation_of-requires-clause-is : goal.equation_of-requires-clause-is
equation_of-requires-clause-is c = c.requires.is

pub equation_of-requires-clause-th : goal.equation_of-requires-clause-th
equation_of-requires-clause-th c = c.requires.left

pub equation_of-requires-clause-false_is : goal.equation_of-requires-clause-false_is
equation_of-requires-clause-false_is c = c.requires.left_false

pub returns-in_err-eq-clause-kept : goal.returns-in_err-eq-clause-kept
returns-in_err-eq-clause-kept c = c.equation_of.ensures.kept

pub returns-in_err-eq-clause-facts : goal.returns-in_err-eq-clause-facts
returns-in_err-eq-clause-facts c = c.equation_of.ensures.facts

pub returns-in_err-eq-clause-gives : goal.returns-in_err-eq-clause-gives
returns-in_err-eq-clause-gives c = err_free c.from_residual.result _ c.from_residual.ensures.0

pub rewrite-requires-clause-eq : goal.rewrite-requires-clause-eq
rewrite-requires-clause-eq c = c.in_ok-eq.ensures.gives.is_thm

pub rewrite-requires-clause-is : goal.rewrite-requires-clause-is
rewrite-requires-clause-is c = para_equal c.args.log.now c.equation_of.new.log c.in_ok-eq.eq.0 c.args.right.0 _ _ _ _ c.args.l.now c.args.path.now c.equation_of.ensures.kept c.requires.right c.in_ok-eq.ensures.gives

pub rewrite-requires-clause-atom : goal.rewrite-requires-clause-atom
rewrite-requires-clause-atom c = formula_stays c.args.log.now c.equation_of.new.log c.args.l.now.atom c.equation_of.ensures.kept c.requires.atom

pub rewrite-requires-clause-part : goal.rewrite-requires-clause-part
rewrite-requires-clause-part c = para_part c.args.log.now c.equation_of.new.log c.in_ok-eq.eq.0 c.args.right.0 _ _ _ _ c.args.l.now c.args.path.now c.equation_of.ensures.kept c.requires.right c.in_ok-eq.ensures.gives c.requires.part

pub rewrite-requires-clause-th : goal.rewrite-requires-clause-th
rewrite-requires-clause-th c = thm_stays _ _ _ c.equation_of.ensures.kept c.requires.right

pub rewrite-requires-clause-false_is : goal.rewrite-requires-clause-false_is
rewrite-requires-clause-false_is c = para_false c.args.log.now c.equation_of.new.log c.in_ok-eq.eq.0 c.args.right.0 _ _ _ _ c.args.l.now c.args.path.now c.equation_of.ensures.kept c.requires.right c.in_ok-eq.ensures.gives c.requires.right_false

pub returns-clause-kept : goal.returns-clause-kept
returns-clause-kept c = extends_trans _ _ _ c.equation_of.ensures.kept c.rewrite.ensures.kept

pub returns-clause-facts : goal.returns-clause-facts
returns-clause-facts c = c.rewrite.ensures.facts ∙ c.equation_of.ensures.facts

pub returns-clause-gives : goal.returns-clause-gives
returns-clause-gives c = gives_as c.rewrite.result c.rewrite.new.log _ _ (para_is c.args.log.now c.equation_of.new.log c.in_ok-eq.eq.0 c.args.right.0 _ _ _ _ c.args.l.now c.args.path.now c.equation_of.ensures.kept c.requires.right c.in_ok-eq.ensures.gives) c.rewrite.ensures.gives
