use Rattle.std.proofs.Common.{refl, sym, ◌∙◌, subst}
use Rattle.std.specs.FinSet as set
use Rattle.kernel_rules.specs.Connectives.{neg, chosen, lambda, right_of, head_ty, applied_to}
use Rattle.kernel_rules.specs.Rules.{seq}
use Rattle.hol_kernel.specs.Logs.{thm}
use Rattle.hol_kernel.specs.Conditions.{IsProperty}
use Rattle.hol_kernel.proofs.Growing.{extends_refl}
use Rattle.hol_kernel.proofs.Making.{err_free}
use Rattle.hol_derived.proofs.Cuts.{gives_as}
use Rattle.hol_derived.proofs.Unions.{none_joined}
use Rattle.hol_refutations.proofs.Steps.{some_gives_property}
use Rattle.hol_refutations.proofs.Failures.{denied_at, failure_formula}
use Rattle.hol_refutations.proofs.Named.{name_equal, name_ty, name_left}
use Rattle.hol_refutations.proofs.counterexamples.at_named.Goals as goal

pub subst_own-requires-clause-eq : goal.subst_own-requires-clause-eq
subst_own-requires-clause-eq c = c.requires.name

pub subst_own-requires-clause-a : goal.subst_own-requires-clause-a
subst_own-requires-clause-a c = c.requires.th

pub subst_own-requires-clause-is : goal.subst_own-requires-clause-is
subst_own-requires-clause-is c = name_equal c.args.log.now c.args.name.0 c.args.ty.now (chosen c.args.ty.now (lambda c.args.ty.now (neg c.args.body.now))) c.requires.names

pub subst_own-requires-clause-f : goal.subst_own-requires-clause-f
subst_own-requires-clause-f c =
    let sig = c.args.log.now.env.sig in
    let a = c.args.ty.now in
    let f = lambda a (neg c.args.body.now) in
    subst (λ t. IsProperty sig t (head_ty (thm c.args.log.now c.args.name.0).concl)) (sym c.in_ok-property.ensures)
    (subst (IsProperty sig f) (sym (name_ty c.args.log.now c.args.name.0 a (chosen a f) c.requires.names)) (some_gives_property sig a f (failure_formula sig a c.args.body.now c.requires.whole)))

pub subst_own-requires-clause-fits : goal.subst_own-requires-clause-fits
subst_own-requires-clause-fits c =
    let a = c.args.ty.now in
    let f = lambda a (neg c.args.body.now) in
    c.requires.is ∙ sym (denied_at a c.args.body.now (chosen a f))
    ∙ (λ i. applied_to (sym c.in_ok-property.ensures i) (sym (name_left c.args.log.now c.args.name.0 a (chosen a f) c.requires.names) i))

pub returns-in_err-property-clause-kept : goal.returns-in_err-property-clause-kept
returns-in_err-property-clause-kept c = extends_refl c.args.log.now

pub returns-in_err-property-clause-facts : goal.returns-in_err-property-clause-facts
returns-in_err-property-clause-facts c = refl

pub returns-in_err-property-clause-gives : goal.returns-in_err-property-clause-gives
returns-in_err-property-clause-gives c = err_free c.from_residual.result _ c.from_residual.ensures.0

pub returns-clause-kept : goal.returns-clause-kept
returns-clause-kept c = c.subst_own.ensures.kept

pub returns-clause-facts : goal.returns-clause-facts
returns-clause-facts c = c.subst_own.ensures.facts

pub returns-clause-gives : goal.returns-clause-gives
returns-clause-gives c =
    let g = (thm c.args.log.now c.args.th.0).hyps in
    let d = right_of (thm c.args.log.now c.args.name.0).concl in
    gives_as c.subst_own.result c.subst_own.new.self _ _
    ((λ i. seq (set.union ((c.requires.names i).hyps) g) (applied_to (c.in_ok-property.ensures i) d)) ∙ (λ i. seq (none_joined g i) (denied_at c.args.ty.now c.args.body.now d i)))
    c.subst_own.ensures.gives
