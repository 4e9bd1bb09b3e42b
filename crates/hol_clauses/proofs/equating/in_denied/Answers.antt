use Rattle.std.proofs.Common.{◌∷◌, refl, sym, ◌∙◌, ap, subst, IsTrue}
use Rattle.std.specs.FinSet as set
use Rattle.hol_terms.specs.Formulas.{IsFormula}
use Rattle.kernel_rules.specs.Connectives.{right_of, is_equal, neg, left_of}
use Rattle.kernel_rules.specs.Rules.{seq}
use Rattle.kernel_rules.proofs.TypedTerms.{neg_formula}
use Rattle.hol_kernel.specs.Logs.{thm}
use Rattle.hol_derived.specs.Paths.{part_at}
use Rattle.hol_kernel.proofs.Growing.{extends_refl, extends_trans, thm_stays}
use Rattle.hol_kernel.proofs.Making.{err_free}
use Rattle.hol_derived.proofs.Cuts.{gives_as}
use Rattle.hol_derived.proofs.Splits.{formula_stays}
use Rattle.hol_clauses.proofs.Rewritten.{there_denies, denied_fits, denied_is, in_neg_part, in_neg_replaced, held_part}
use Rattle.hol_clauses.proofs.equating.in_denied.Goals as goal

pub returns-in_err-longer-clause-kept : goal.returns-in_err-longer-clause-kept
returns-in_err-longer-clause-kept c = extends_refl c.args.log.now

pub returns-in_err-longer-clause-facts : goal.returns-in_err-longer-clause-facts
returns-in_err-longer-clause-facts c = refl

pub returns-in_err-longer-clause-gives : goal.returns-in_err-longer-clause-gives
returns-in_err-longer-clause-gives c = err_free c.from_residual.result _ c.from_residual.ensures.0

pub not_intro-requires-clause-t : goal.not_intro-requires-clause-t
not_intro-requires-clause-t c = c.requires.atom

pub not_intro-requires-clause-a : goal.not_intro-requires-clause-a
not_intro-requires-clause-a c = c.requires.th

pub not_intro-requires-clause-fits : goal.not_intro-requires-clause-fits
not_intro-requires-clause-fits c = c.requires.false_is

pub returns-in_err-absent-clause-kept : goal.returns-in_err-absent-clause-kept
returns-in_err-absent-clause-kept c = c.not_intro.ensures.kept

pub returns-in_err-absent-clause-facts : goal.returns-in_err-absent-clause-facts
returns-in_err-absent-clause-facts c = c.not_intro.ensures.facts

pub returns-in_err-absent-clause-gives : goal.returns-in_err-absent-clause-gives
returns-in_err-absent-clause-gives c = err_free c.from_residual-in_err-absent.result _ c.from_residual-in_err-absent.ensures.0

pub replace_at-requires-clause-eq : goal.replace_at-requires-clause-eq
replace_at-requires-clause-eq c = thm_stays _ _ _ c.not_intro.ensures.kept c.requires.eq

pub replace_at-requires-clause-th : goal.replace_at-requires-clause-th
replace_at-requires-clause-th c = c.in_ok-absent.ensures.gives.is_thm

pub replace_at-requires-clause-is : goal.replace_at-requires-clause-is
replace_at-requires-clause-is c = ap (λ q. is_equal q.concl) (c.not_intro.ensures.kept.earlier c.args.eq.0 c.requires.eq) ∙ c.requires.is

pub replace_at-requires-clause-part : goal.replace_at-requires-clause-part
replace_at-requires-clause-part c = held_part c.args.log.now c.not_intro.new.self c.args.eq.0 c.in_ok-absent.absent.0 c.in_ok-longer.longer (neg c.args.a.now) _ c.not_intro.ensures.kept c.requires.eq c.in_ok-absent.ensures.gives (ap (λ p. part_at p (neg c.args.a.now)) (c.in_ok-longer.ensures ∙ ap (λ p. 1 ∷ p) c.as_slice.ensures) ∙ in_neg_part c.args.path.now c.args.a.now _ c.requires.part)

pub returns-in_err-there-clause-kept : goal.returns-in_err-there-clause-kept
returns-in_err-there-clause-kept c = extends_trans _ _ _ c.not_intro.ensures.kept c.replace_at.ensures.kept

pub returns-in_err-there-clause-facts : goal.returns-in_err-there-clause-facts
returns-in_err-there-clause-facts c = c.replace_at.ensures.facts ∙ c.not_intro.ensures.facts

pub returns-in_err-there-clause-gives : goal.returns-in_err-there-clause-gives
returns-in_err-there-clause-gives c = err_free c.from_residual-in_err-there.result _ c.from_residual-in_err-there.ensures.0

pub supposition-requires-clause-th : goal.supposition-requires-clause-th
supposition-requires-clause-th c = c.in_ok-there.ensures.gives.is_thm

pub supposition-requires-clause-is : goal.supposition-requires-clause-is
supposition-requires-clause-is c = there_denies c.args.log.now c.not_intro.new.self c.replace_at.new.log c.replace_at.new.log c.args.eq.0 c.in_ok-absent.absent.0 c.in_ok-there.there.0 0 c.in_ok-longer.longer (neg c.args.a.now) _ c.not_intro.ensures.kept (extends_refl c.replace_at.new.log) c.requires.eq c.in_ok-absent.ensures.gives c.in_ok-there.ensures.gives _ (in_neg_replaced c.args.path.now c.in_ok-longer.longer (right_of (thm c.args.log.now c.args.eq.0).concl) c.args.a.now (c.in_ok-longer.ensures ∙ ap (λ p. 1 ∷ p) c.as_slice.ensures))

pub returns-in_err-against-clause-kept : goal.returns-in_err-against-clause-kept
returns-in_err-against-clause-kept c = extends_trans _ _ _ (extends_trans _ _ _ c.not_intro.ensures.kept c.replace_at.ensures.kept) c.supposition.ensures.kept

pub returns-in_err-against-clause-facts : goal.returns-in_err-against-clause-facts
returns-in_err-against-clause-facts c = c.supposition.ensures.facts ∙ (c.replace_at.ensures.facts ∙ c.not_intro.ensures.facts)

pub returns-in_err-against-clause-gives : goal.returns-in_err-against-clause-gives
returns-in_err-against-clause-gives c = err_free c.from_residual-in_err-against.result _ c.from_residual-in_err-against.ensures.0

pub not_elim-requires-clause-na : goal.not_elim-requires-clause-na
not_elim-requires-clause-na c = thm_stays _ _ _ c.supposition.ensures.kept c.in_ok-there.ensures.gives.is_thm

pub not_elim-requires-clause-a : goal.not_elim-requires-clause-a
not_elim-requires-clause-a c = c.in_ok-against.ensures.gives.is_thm

pub not_elim-requires-clause-fits : goal.not_elim-requires-clause-fits
not_elim-requires-clause-fits c = denied_fits c.args.log.now c.not_intro.new.self c.replace_at.new.log c.supposition.new.log c.args.eq.0 c.in_ok-absent.absent.0 c.in_ok-there.there.0 c.in_ok-against.against.0 c.in_ok-longer.longer (neg c.args.a.now) _ c.not_intro.ensures.kept c.supposition.ensures.kept c.requires.eq c.in_ok-absent.ensures.gives c.in_ok-there.ensures.gives _ (in_neg_replaced c.args.path.now c.in_ok-longer.longer (right_of (thm c.args.log.now c.args.eq.0).concl) c.args.a.now (c.in_ok-longer.ensures ∙ ap (λ p. 1 ∷ p) c.as_slice.ensures)) c.in_ok-against.ensures.gives

pub returns-clause-kept : goal.returns-clause-kept
returns-clause-kept c = extends_trans _ _ _ (extends_trans _ _ _ (extends_trans _ _ _ c.not_intro.ensures.kept c.replace_at.ensures.kept) c.supposition.ensures.kept) c.not_elim.ensures.kept

pub returns-clause-facts : goal.returns-clause-facts
returns-clause-facts c = c.not_elim.ensures.facts ∙ (c.supposition.ensures.facts ∙ (c.replace_at.ensures.facts ∙ c.not_intro.ensures.facts))

pub returns-clause-gives : goal.returns-clause-gives
returns-clause-gives c = gives_as c.not_elim.result c.not_elim.new.self _ _ (denied_is c.args.log.now c.not_intro.new.self c.replace_at.new.log c.supposition.new.log c.args.eq.0 c.in_ok-absent.absent.0 c.in_ok-there.there.0 c.in_ok-against.against.0 c.in_ok-longer.longer (neg c.args.a.now) _ c.not_intro.ensures.kept c.supposition.ensures.kept c.requires.eq c.in_ok-absent.ensures.gives c.in_ok-there.ensures.gives _ (in_neg_replaced c.args.path.now c.in_ok-longer.longer (right_of (thm c.args.log.now c.args.eq.0).concl) c.args.a.now (c.in_ok-longer.ensures ∙ ap (λ p. 1 ∷ p) c.as_slice.ensures)) c.in_ok-against.ensures.gives) c.not_elim.ensures.gives
