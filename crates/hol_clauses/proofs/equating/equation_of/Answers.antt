use Rattle.std.proofs.Common.{refl, sym, ◌∙◌, ap, subst, IsTrue}
use Rattle.std.specs.FinSet as set
use Rattle.hol_terms.specs.Formulas.{IsFormula}
use Rattle.kernel_rules.specs.Connectives.{is_equal, neg, left_of}
use Rattle.kernel_rules.specs.Rules.{seq}
use Rattle.kernel_rules.proofs.TypedTerms.{neg_formula}
use Rattle.hol_kernel.specs.Logs.{thm}
use Rattle.hol_kernel.proofs.Growing.{extends_refl, extends_trans, thm_stays}
use Rattle.hol_kernel.proofs.Making.{err_free}
use Rattle.hol_derived.proofs.Cuts.{gives_as}
use Rattle.hol_derived.proofs.Splits.{formula_stays}
use Rattle.hol_clauses.proofs.Rewritten.{as_it_is, turned}
use Rattle.hol_clauses.proofs.equating.equation_of.Goals as goal

pub classical-requires-clause-t : goal.classical-requires-clause-t
classical-requires-clause-t c = c.requires.e

pub classical-requires-clause-a : goal.classical-requires-clause-a
classical-requires-clause-a c = c.requires.th

pub classical-requires-clause-fits : goal.classical-requires-clause-fits
classical-requires-clause-fits c = c.requires.false_is

pub returns-in_err-eq-clause-kept : goal.returns-in_err-eq-clause-kept
returns-in_err-eq-clause-kept c = c.classical.ensures.kept

pub returns-in_err-eq-clause-facts : goal.returns-in_err-eq-clause-facts
returns-in_err-eq-clause-facts c = c.classical.ensures.facts

pub returns-in_err-eq-clause-gives : goal.returns-in_err-eq-clause-gives
returns-in_err-eq-clause-gives c = err_free c.from_residual.result _ c.from_residual.ensures.0

pub turned_round-requires-clause-eq : goal.turned_round-requires-clause-eq
turned_round-requires-clause-eq c = c.in_ok-eq.ensures.gives.is_thm

pub turned_round-requires-clause-is : goal.turned_round-requires-clause-is
turned_round-requires-clause-is c = ap (λ q. is_equal q.concl) c.in_ok-eq.ensures.gives.is ∙ c.requires.is

pub returns-then-swapped-clause-kept : goal.returns-then-swapped-clause-kept
returns-then-swapped-clause-kept c = extends_trans _ _ _ c.classical.ensures.kept c.turned_round.ensures.kept

pub returns-then-swapped-clause-facts : goal.returns-then-swapped-clause-facts
returns-then-swapped-clause-facts c = c.turned_round.ensures.facts ∙ c.classical.ensures.facts

pub returns-then-swapped-clause-gives : goal.returns-then-swapped-clause-gives
returns-then-swapped-clause-gives c = gives_as c.turned_round.result c.turned_round.new.log _ _ (turned c.classical.new.self c.in_ok-eq.eq.0 _ c.args.e.now c.args.swapped c.in_ok-eq.ensures.gives c.if-swapped.true) c.turned_round.ensures.gives

pub returns-else-swapped-clause-kept : goal.returns-else-swapped-clause-kept
returns-else-swapped-clause-kept c = c.classical.ensures.kept

pub returns-else-swapped-clause-facts : goal.returns-else-swapped-clause-facts
returns-else-swapped-clause-facts c = c.classical.ensures.facts

pub returns-else-swapped-clause-gives : goal.returns-else-swapped-clause-gives
returns-else-swapped-clause-gives c = record { is_thm = c.in_ok-eq.ensures.gives.is_thm; is = c.in_ok-eq.ensures.gives.is ∙ as_it_is _ c.args.e.now c.args.swapped c.requires.is c.if-swapped.false }
