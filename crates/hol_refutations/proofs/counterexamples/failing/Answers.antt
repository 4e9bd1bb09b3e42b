use Rattle.std.proofs.Common.{refl, sym, ◌∙◌, ap, subst}
use Rattle.kernel_rules.specs.Connectives.{neg, some, applied_to, lambda}
use Rattle.kernel_rules.specs.Rules.{seq}
use Rattle.hol_kernel.specs.Logs.{thm}
use Rattle.hol_kernel.proofs.Growing.{extends_refl}
use Rattle.hol_kernel.proofs.Making.{err_free}
use Rattle.hol_derived.proofs.Cuts.{gives_as}
use Rattle.hol_terms.specs.declared.term.Term.{Free}
use Rattle.hol_kernel.specs.Conditions.{own_ty, IsGiven, IsProperty}
use Rattle.hol_refutations.proofs.Failures.{denied_at, variable_own, variable_given, failure_property}
use Rattle.hol_refutations.proofs.counterexamples.failing.Goals as goal

pub introduced-requires-clause-value : goal.introduced-requires-clause-value
introduced-requires-clause-value c = subst (λ v. IsGiven c.args.log.now.env.sig v (own_ty c.args.log.now.env.sig v)) (sym c.in_ok-value.ensures) (variable_given c.args.log.now.env.sig c.args.ty.now c.args.body.now c.requires.whole c.args.n)

pub introduced-requires-clause-property : goal.introduced-requires-clause-property
introduced-requires-clause-property c = subst (λ v. IsProperty c.args.log.now.env.sig c.in_ok-property.property (own_ty c.args.log.now.env.sig v)) (sym c.in_ok-value.ensures) (subst (λ g. IsProperty c.args.log.now.env.sig g (own_ty c.args.log.now.env.sig (Free c.args.n c.args.ty.now))) (sym c.in_ok-property.ensures) (failure_property c.args.log.now.env.sig c.args.ty.now c.args.body.now c.requires.whole c.args.n))

pub introduced-requires-clause-th : goal.introduced-requires-clause-th
introduced-requires-clause-th c = c.requires.th

pub introduced-requires-clause-is : goal.introduced-requires-clause-is
introduced-requires-clause-is c = c.requires.is ∙ sym (denied_at c.args.ty.now c.args.body.now (Free c.args.n c.args.ty.now)) ∙ (λ i. applied_to (sym c.in_ok-property.ensures i) (sym c.in_ok-value.ensures i))

pub returns-in_err-property-clause-kept : goal.returns-in_err-property-clause-kept
returns-in_err-property-clause-kept c = extends_refl c.args.log.now

pub returns-in_err-property-clause-facts : goal.returns-in_err-property-clause-facts
returns-in_err-property-clause-facts c = refl

pub returns-in_err-property-clause-gives : goal.returns-in_err-property-clause-gives
returns-in_err-property-clause-gives c = err_free c.from_residual.result _ c.from_residual.ensures.0

pub returns-in_err-value-clause-kept : goal.returns-in_err-value-clause-kept
returns-in_err-value-clause-kept c = extends_refl c.args.log.now

pub returns-in_err-value-clause-facts : goal.returns-in_err-value-clause-facts
returns-in_err-value-clause-facts c = refl

pub returns-in_err-value-clause-gives : goal.returns-in_err-value-clause-gives
returns-in_err-value-clause-gives c = err_free c.from_residual-in_err-value.result _ c.from_residual-in_err-value.ensures.0

pub returns-clause-kept : goal.returns-clause-kept
returns-clause-kept c = c.introduced.ensures.kept

pub returns-clause-facts : goal.returns-clause-facts
returns-clause-facts c = c.introduced.ensures.facts

pub returns-clause-gives : goal.returns-clause-gives
returns-clause-gives c = gives_as c.introduced.result c.introduced.new.log _ _ ((λ i. seq (thm c.args.log.now c.args.th.0).hyps (some (own_ty c.args.log.now.env.sig (c.in_ok-value.ensures i)) (c.in_ok-property.ensures i))) ∙ ap (λ a. seq (thm c.args.log.now c.args.th.0).hyps (some a (lambda c.args.ty.now (neg c.args.body.now)))) (variable_own c.args.log.now.env.sig c.args.ty.now c.args.body.now c.requires.whole c.args.n)) c.introduced.ensures.gives
