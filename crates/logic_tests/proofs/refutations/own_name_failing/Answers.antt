use Rattle.std.proofs.Common.{sym, ap, subst}
use Rattle.std.specs.FinSet as set
use Rattle.hol_terms.specs.Formulas.{IsFormula}
use Rattle.kernel_rules.specs.Connectives.{equal, some, chosen}
use Rattle.kernel_rules.specs.Rules.{seq}
use Rattle.hol_kernel.proofs.Growing.{extends_refl}
use Rattle.hol_kernel.proofs.Making.{err_free}
use Rattle.hol_derived.proofs.Cuts.{gives_as}
use Rattle.hol_refutations.proofs.Failures.{failure_formula}
use Rattle.logic_tests.proofs.refutations.own_name_failing.Goals as goal

pub own_name-name-requires : goal.own_name-name-requires
own_name-name-requires c =
    let sig = c.args.log.now.env.sig in
    subst (λ f. IsFormula sig (some c.args.ty.now f)) (sym c.in_ok-property.ensures) (failure_formula sig c.args.ty.now c.args.body.now c.requires)

pub returns-in_err-property-clause-kept : goal.returns-in_err-property-clause-kept
returns-in_err-property-clause-kept c = extends_refl c.args.log.now

pub returns-in_err-property-clause-gives : goal.returns-in_err-property-clause-gives
returns-in_err-property-clause-gives c = err_free c.from_residual.result _ c.from_residual.ensures.0

pub returns-clause-kept : goal.returns-clause-kept
returns-clause-kept c = c.own_name-name.ensures.kept

pub returns-clause-gives : goal.returns-clause-gives
returns-clause-gives c =
    let a = c.args.ty.now in
    gives_as c.own_name-name.result c.own_name-name.new.log _ _ (ap (λ f. seq set.empty (equal a (chosen a f) (chosen a f))) c.in_ok-property.ensures) c.own_name-name.ensures.gives
