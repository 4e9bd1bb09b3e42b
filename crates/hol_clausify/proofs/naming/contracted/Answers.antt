use Rattle.std.proofs.Common.{sym, ◌∙◌, ap, subst}
use Rattle.hol_terms.specs.Formulas.{IsFormula}
use Rattle.kernel_rules.specs.Connectives.{equal, chosen}
use Rattle.kernel_rules.specs.Rules.{seq}
use Rattle.hol_kernel.specs.Conditions.{own_ty, IsGiven}
use Rattle.hol_kernel.proofs.Growing.{extends_trans}
use Rattle.hol_kernel.proofs.Making.{err_free}
use Rattle.hol_derived.specs.Contractions.{contracted_along}
use Rattle.hol_derived.proofs.Cuts.{gives_as}
use Rattle.hol_derived.proofs.Splits.{formula_stays}
use Rattle.hol_refutations.proofs.Named.{chosen_own, chosen_given}
use Rattle.hol_clausify.proofs.NamedValues.{naming_formula, naming_contracted}
use Rattle.hol_clausify.proofs.naming.contracted.Goals as goal

pub refl-requires : goal.refl-requires
refl-requires c =
    let sig = c.args.log.now.env.sig in
    subst (λ t. IsGiven sig t (own_ty sig t)) (sym c.requires.chosen) (chosen_given sig c.args.ty.now c.args.f.now c.requires.whole)

pub beta_expand-requires-clause-th : goal.beta_expand-requires-clause-th
beta_expand-requires-clause-th c = c.in_ok-same.ensures.gives.is_thm

pub beta_expand-requires-clause-target : goal.beta_expand-requires-clause-target
beta_expand-requires-clause-target c =
    let sig = c.args.log.now.env.sig in
    formula_stays _ _ _ c.refl.ensures.kept (subst (IsFormula sig) (sym c.requires.equation) (naming_formula sig c.args.ty.now c.args.f.now c.requires.whole))

pub beta_expand-requires-clause-redexes : goal.beta_expand-requires-clause-redexes
beta_expand-requires-clause-redexes c =
    let sig = c.args.log.now.env.sig in
    let a = c.args.ty.now in
    let f = c.args.f.now in
    (λ i. contracted_along (c.requires.paths i) (c.requires.equation i)) ∙ naming_contracted sig a f c.requires.whole
    ∙ sym
    (ap (λ q. q.concl) c.in_ok-same.ensures.gives.is ∙ (λ i. equal (own_ty sig (c.requires.chosen i)) (c.requires.chosen i) (c.requires.chosen i))
    ∙ ap (λ t. equal t (chosen a f) (chosen a f)) (chosen_own sig a f c.requires.whole))

pub returns-in_err-same-clause-kept : goal.returns-in_err-same-clause-kept
returns-in_err-same-clause-kept c = c.refl.ensures.kept

pub returns-in_err-same-clause-facts : goal.returns-in_err-same-clause-facts
returns-in_err-same-clause-facts c = c.refl.ensures.facts

pub returns-in_err-same-clause-gives : goal.returns-in_err-same-clause-gives
returns-in_err-same-clause-gives c = err_free c.from_residual.result _ c.from_residual.ensures.0

pub returns-clause-kept : goal.returns-clause-kept
returns-clause-kept c = extends_trans _ _ _ c.refl.ensures.kept c.beta_expand.ensures.kept

pub returns-clause-facts : goal.returns-clause-facts
returns-clause-facts c = c.beta_expand.ensures.facts ∙ c.refl.ensures.facts

pub returns-clause-gives : goal.returns-clause-gives
returns-clause-gives c =
    gives_as c.beta_expand.result c.beta_expand.new.log _ _ (λ i. seq ((c.in_ok-same.ensures.gives.is i).hyps) (c.requires.equation i)) c.beta_expand.ensures.gives
