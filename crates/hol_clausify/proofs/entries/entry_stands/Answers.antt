use Rattle.std.proofs.Common.{refl, ◌≡◌, ◌∙◌, sym, ap, subst}
use Rattle.std.specs.FinSet as set
use Rattle.hol_terms.specs.Formulas.{IsFormula}
use Rattle.kernel_rules.specs.Rules.{seq}
use Rattle.hol_kernel.proofs.Growing.{extends_refl, extends_trans}
use Rattle.hol_kernel.proofs.Making.{err_free}
use Rattle.hol_derived.specs.Contractions.{contracted_along}
use Rattle.hol_derived.proofs.Cuts.{gives_as}
use Rattle.hol_derived.proofs.Splits.{formula_stays}
use Rattle.hol_clausify.proofs.EntryLaws.{entry_given, contracted}
use Rattle.hol_clausify.proofs.entries.entry_stands.Goals as goal

pub returns-in_err-paths-clause-kept : goal.returns-in_err-paths-clause-kept
returns-in_err-paths-clause-kept c = extends_refl c.args.log.now

pub returns-in_err-paths-clause-facts : goal.returns-in_err-paths-clause-facts
returns-in_err-paths-clause-facts c = refl

pub returns-in_err-paths-clause-gives : goal.returns-in_err-paths-clause-gives
returns-in_err-paths-clause-gives c = err_free c.from_residual.result _ c.from_residual.ensures.0

pub returns-in_err-target-clause-kept : goal.returns-in_err-target-clause-kept
returns-in_err-target-clause-kept c = extends_refl c.args.log.now

pub returns-in_err-target-clause-facts : goal.returns-in_err-target-clause-facts
returns-in_err-target-clause-facts c = refl

pub returns-in_err-target-clause-gives : goal.returns-in_err-target-clause-gives
returns-in_err-target-clause-gives c = err_free c.from_residual-in_err-target.result _ c.from_residual-in_err-target.ensures.0

pub identity-requires-clause-form : goal.identity-requires-clause-form
identity-requires-clause-form c = refl

pub identity-requires-clause-t : goal.identity-requires-clause-t
identity-requires-clause-t c = entry_given c.args.log.now.env.sig c.args.table.now c.args.number c.args.entry.now c.args.t.now c.requires.t c.requires.table

pub returns-in_err-same-clause-kept : goal.returns-in_err-same-clause-kept
returns-in_err-same-clause-kept c = c.identity.ensures.kept

pub returns-in_err-same-clause-facts : goal.returns-in_err-same-clause-facts
returns-in_err-same-clause-facts c = c.identity.ensures.facts

pub returns-in_err-same-clause-gives : goal.returns-in_err-same-clause-gives
returns-in_err-same-clause-gives c = err_free c.from_residual-in_err-same.result _ c.from_residual-in_err-same.ensures.0

pub beta_expand-requires-clause-th : goal.beta_expand-requires-clause-th
beta_expand-requires-clause-th c = c.in_ok-same.ensures.gives.is_thm

pub beta_expand-requires-clause-target : goal.beta_expand-requires-clause-target
beta_expand-requires-clause-target c =
    subst (IsFormula c.identity.new.log.env.sig) (sym c.in_ok-target.ensures) (formula_stays c.args.log.now c.identity.new.log _ c.identity.ensures.kept c.requires.formula)

pub beta_expand-requires-clause-redexes : goal.beta_expand-requires-clause-redexes
beta_expand-requires-clause-redexes c =
    (λ i. contracted_along (c.in_ok-paths.ensures i) (c.in_ok-target.ensures i))
    ∙ contracted c.args.log.now.env.sig c.args.table.now c.args.number c.args.entry.now c.args.t.now c.requires.t c.requires.table ∙ sym (ap (λ q. q.concl) c.in_ok-same.ensures.gives.is)

pub returns-clause-kept : goal.returns-clause-kept
returns-clause-kept c = extends_trans _ _ _ c.identity.ensures.kept c.beta_expand.ensures.kept

pub returns-clause-facts : goal.returns-clause-facts
returns-clause-facts c = c.beta_expand.ensures.facts ∙ c.identity.ensures.facts

pub returns-clause-gives : goal.returns-clause-gives
returns-clause-gives c =
    gives_as c.beta_expand.result c.beta_expand.new.log _ _ (λ i. seq (ap (λ q. q.hyps) c.in_ok-same.ensures.gives.is i) (c.in_ok-target.ensures i)) c.beta_expand.ensures.gives
