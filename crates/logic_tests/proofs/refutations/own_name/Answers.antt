use Rattle.std.proofs.Common.{sym, ◌∙◌, ap, subst}
use Rattle.std.specs.FinSet as set
use Rattle.kernel_rules.specs.Connectives.{equal, chosen}
use Rattle.kernel_rules.specs.Rules.{seq}
use Rattle.hol_kernel.specs.Conditions.{own_ty, IsGiven}
use Rattle.hol_kernel.proofs.Growing.{extends_refl}
use Rattle.hol_kernel.proofs.Making.{err_free}
use Rattle.hol_derived.proofs.Cuts.{gives_as}
use Rattle.hol_refutations.proofs.Named.{chosen_own, chosen_given}
use Rattle.logic_tests.proofs.refutations.own_name.Goals as goal

pub refl-name-requires : goal.refl-name-requires
refl-name-requires c =
    let sig = c.args.log.now.env.sig in
    subst (λ t. IsGiven sig t (own_ty sig t)) (sym c.in_ok-value.ensures) (chosen_given sig c.args.ty.now c.args.f.now c.requires)

pub returns-in_err-value-clause-kept : goal.returns-in_err-value-clause-kept
returns-in_err-value-clause-kept c = extends_refl c.args.log.now

pub returns-in_err-value-clause-gives : goal.returns-in_err-value-clause-gives
returns-in_err-value-clause-gives c = err_free c.from_residual.result _ c.from_residual.ensures.0

pub returns-clause-kept : goal.returns-clause-kept
returns-clause-kept c = c.refl-name.ensures.kept

pub returns-clause-gives : goal.returns-clause-gives
returns-clause-gives c =
    let sig = c.args.log.now.env.sig in
    let a = c.args.ty.now in
    let value = chosen a c.args.f.now in
    gives_as c.refl-name.result c.refl-name.new.self _ _
    ((λ i. seq set.empty (equal (own_ty sig (c.in_ok-value.ensures i)) (c.in_ok-value.ensures i) (c.in_ok-value.ensures i)))
    ∙ ap (λ t. seq set.empty (equal t value value)) (chosen_own sig a c.args.f.now c.requires)) c.refl-name.ensures.gives
