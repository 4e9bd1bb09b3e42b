use Rattle.std.proofs.Common.{refl, sym, ◌∙◌, ap, subst, IsTrue}
use Rattle.std.specs.FinSet as set
use Rattle.hol_terms.specs.Formulas.{IsFormula}
use Rattle.kernel_rules.specs.Connectives.{is_equal, neg, left_of}
use Rattle.kernel_rules.specs.Rules.{seq}
use Rattle.kernel_rules.proofs.TypedTerms.{neg_formula}
use Rattle.hol_kernel.specs.Logs.{thm}
use Rattle.hol_kernel.proofs.Growing.{extends_refl, extends_trans, thm_stays}
use Rattle.hol_kernel.proofs.Making.{err_free}
use Rattle.hol_derived.proofs.Cuts.{gives_as}
use Rattle.hol_derived.proofs.Splits.{formula_stays}
use Rattle.hol_clauses.proofs.Rewritten.{atom_fits, atom_is, held_part}
use Rattle.hol_clauses.proofs.equating.in_atom.Goals as goal

pub classical-requires-clause-t : goal.classical-requires-clause-t
classical-requires-clause-t c = c.requires.atom

pub classical-requires-clause-a : goal.classical-requires-clause-a
classical-requires-clause-a c = c.requires.th

pub classical-requires-clause-fits : goal.classical-requires-clause-fits
classical-requires-clause-fits c = c.requires.false_is

pub returns-in_err-held-clause-kept : goal.returns-in_err-held-clause-kept
returns-in_err-held-clause-kept c = c.classical.ensures.kept

pub returns-in_err-held-clause-facts : goal.returns-in_err-held-clause-facts
returns-in_err-held-clause-facts c = c.classical.ensures.facts

pub returns-in_err-held-clause-gives : goal.returns-in_err-held-clause-gives
returns-in_err-held-clause-gives c = err_free c.from_residual.result _ c.from_residual.ensures.0

pub replace_at-requires-clause-eq : goal.replace_at-requires-clause-eq
replace_at-requires-clause-eq c = thm_stays _ _ _ c.classical.ensures.kept c.requires.eq

pub replace_at-requires-clause-th : goal.replace_at-requires-clause-th
replace_at-requires-clause-th c = c.in_ok-held.ensures.gives.is_thm

pub replace_at-requires-clause-is : goal.replace_at-requires-clause-is
replace_at-requires-clause-is c = ap (λ q. is_equal q.concl) (c.classical.ensures.kept.earlier c.args.eq.0 c.requires.eq) ∙ c.requires.is

pub replace_at-requires-clause-part : goal.replace_at-requires-clause-part
replace_at-requires-clause-part c = held_part c.args.log.now c.classical.new.self c.args.eq.0 c.in_ok-held.held.0 c.args.path.now c.args.a.now _ c.classical.ensures.kept c.requires.eq c.in_ok-held.ensures.gives c.requires.part

pub returns-in_err-there-clause-kept : goal.returns-in_err-there-clause-kept
returns-in_err-there-clause-kept c = extends_trans _ _ _ c.classical.ensures.kept c.replace_at.ensures.kept

pub returns-in_err-there-clause-facts : goal.returns-in_err-there-clause-facts
returns-in_err-there-clause-facts c = c.replace_at.ensures.facts ∙ c.classical.ensures.facts

pub returns-in_err-there-clause-gives : goal.returns-in_err-there-clause-gives
returns-in_err-there-clause-gives c = err_free c.from_residual-in_err-there.result _ c.from_residual-in_err-there.ensures.0

pub denial-requires : goal.denial-requires
denial-requires c = c.in_ok-there.ensures.gives.is_thm

pub returns-in_err-against-clause-kept : goal.returns-in_err-against-clause-kept
returns-in_err-against-clause-kept c = extends_trans _ _ _ (extends_trans _ _ _ c.classical.ensures.kept c.replace_at.ensures.kept) c.denial.ensures.kept

pub returns-in_err-against-clause-facts : goal.returns-in_err-against-clause-facts
returns-in_err-against-clause-facts c = c.denial.ensures.facts ∙ (c.replace_at.ensures.facts ∙ c.classical.ensures.facts)

pub returns-in_err-against-clause-gives : goal.returns-in_err-against-clause-gives
returns-in_err-against-clause-gives c = err_free c.from_residual-in_err-against.result _ c.from_residual-in_err-against.ensures.0

pub not_elim-requires-clause-na : goal.not_elim-requires-clause-na
not_elim-requires-clause-na c = c.in_ok-against.ensures.gives.is_thm

pub not_elim-requires-clause-a : goal.not_elim-requires-clause-a
not_elim-requires-clause-a c = thm_stays _ _ _ c.denial.ensures.kept c.in_ok-there.ensures.gives.is_thm

pub not_elim-requires-clause-fits : goal.not_elim-requires-clause-fits
not_elim-requires-clause-fits c = atom_fits c.args.log.now c.classical.new.self c.replace_at.new.log c.denial.new.log c.args.eq.0 c.in_ok-held.held.0 c.in_ok-there.there.0 c.in_ok-against.against.0 c.args.path.now c.args.a.now _ c.classical.ensures.kept c.denial.ensures.kept c.requires.eq c.in_ok-held.ensures.gives c.in_ok-there.ensures.gives c.in_ok-against.ensures.gives

pub returns-clause-kept : goal.returns-clause-kept
returns-clause-kept c = extends_trans _ _ _ (extends_trans _ _ _ (extends_trans _ _ _ c.classical.ensures.kept c.replace_at.ensures.kept) c.denial.ensures.kept) c.not_elim.ensures.kept

pub returns-clause-facts : goal.returns-clause-facts
returns-clause-facts c = c.not_elim.ensures.facts ∙ (c.denial.ensures.facts ∙ (c.replace_at.ensures.facts ∙ c.classical.ensures.facts))

pub returns-clause-gives : goal.returns-clause-gives
returns-clause-gives c = gives_as c.not_elim.result c.not_elim.new.self _ _ (atom_is c.args.log.now c.classical.new.self c.replace_at.new.log c.denial.new.log c.args.eq.0 c.in_ok-held.held.0 c.in_ok-there.there.0 c.in_ok-against.against.0 c.args.path.now c.args.a.now _ c.classical.ensures.kept c.denial.ensures.kept c.requires.eq c.in_ok-held.ensures.gives c.in_ok-there.ensures.gives c.in_ok-against.ensures.gives) c.not_elim.ensures.gives
