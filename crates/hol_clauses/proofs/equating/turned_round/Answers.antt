use Rattle.std.proofs.Common.{refl, sym, ◌∙◌, ap, subst, IsTrue}
use Rattle.std.specs.FinSet as set
use Rattle.hol_terms.specs.Formulas.{IsFormula}
use Rattle.kernel_rules.specs.Connectives.{is_equal, neg, left_of}
use Rattle.kernel_rules.specs.Rules.{seq}
use Rattle.kernel_rules.proofs.TypedTerms.{neg_formula}
use Rattle.hol_kernel.specs.Logs.{thm}
use Rattle.hol_kernel.proofs.Growing.{extends_refl, extends_trans, thm_stays}
use Rattle.hol_kernel.proofs.Making.{err_free}
use Rattle.hol_derived.proofs.Cuts.{gives_as}
use Rattle.hol_derived.proofs.Splits.{formula_stays}
use Rattle.hol_clauses.proofs.Rewritten.{round_equal, round_part, round_is}
use Rattle.hol_clauses.proofs.equating.turned_round.Goals as goal

pub returns-in_err-path-clause-kept : goal.returns-in_err-path-clause-kept
returns-in_err-path-clause-kept c = extends_refl c.args.log.now

pub returns-in_err-path-clause-facts : goal.returns-in_err-path-clause-facts
returns-in_err-path-clause-facts c = refl

pub returns-in_err-path-clause-gives : goal.returns-in_err-path-clause-gives
returns-in_err-path-clause-gives c = err_free c.from_residual.result _ c.from_residual.ensures.0

pub side_itself-requires-clause-eq : goal.side_itself-requires-clause-eq
side_itself-requires-clause-eq c = c.requires.eq

pub side_itself-requires-clause-is : goal.side_itself-requires-clause-is
side_itself-requires-clause-is c = c.requires.is

pub returns-in_err-same-clause-kept : goal.returns-in_err-same-clause-kept
returns-in_err-same-clause-kept c = c.side_itself.ensures.kept

pub returns-in_err-same-clause-facts : goal.returns-in_err-same-clause-facts
returns-in_err-same-clause-facts c = c.side_itself.ensures.facts

pub returns-in_err-same-clause-gives : goal.returns-in_err-same-clause-gives
returns-in_err-same-clause-gives c = err_free c.from_residual-in_err-same.result _ c.from_residual-in_err-same.ensures.0

pub replace_at-requires-clause-eq : goal.replace_at-requires-clause-eq
replace_at-requires-clause-eq c = thm_stays _ _ _ c.side_itself.ensures.kept c.requires.eq

pub replace_at-requires-clause-th : goal.replace_at-requires-clause-th
replace_at-requires-clause-th c = c.in_ok-same.ensures.gives.is_thm

pub replace_at-requires-clause-is : goal.replace_at-requires-clause-is
replace_at-requires-clause-is c = round_equal c.args.log.now c.side_itself.new.log c.args.eq.0 c.in_ok-same.same.0 c.in_ok-path.path c.side_itself.ensures.kept c.requires.eq c.in_ok-path.ensures c.in_ok-same.ensures.gives c.requires.is

pub replace_at-requires-clause-part : goal.replace_at-requires-clause-part
replace_at-requires-clause-part c = round_part c.args.log.now c.side_itself.new.log c.args.eq.0 c.in_ok-same.same.0 c.in_ok-path.path c.side_itself.ensures.kept c.requires.eq c.in_ok-path.ensures c.in_ok-same.ensures.gives

pub returns-clause-kept : goal.returns-clause-kept
returns-clause-kept c = extends_trans _ _ _ c.side_itself.ensures.kept c.replace_at.ensures.kept

pub returns-clause-facts : goal.returns-clause-facts
returns-clause-facts c = c.replace_at.ensures.facts ∙ c.side_itself.ensures.facts

pub returns-clause-gives : goal.returns-clause-gives
returns-clause-gives c = gives_as c.replace_at.result c.replace_at.new.log _ _ (round_is c.args.log.now c.side_itself.new.log c.args.eq.0 c.in_ok-same.same.0 c.in_ok-path.path c.side_itself.ensures.kept c.requires.eq c.in_ok-path.ensures c.in_ok-same.ensures.gives) c.replace_at.ensures.gives
