use Rattle.std.proofs.Common.{◌∙◌, ap, subst}
use Rattle.hol_terms.specs.Formulas.{IsFormula}
use Rattle.kernel_rules.specs.Connectives.{head_ty}
use Rattle.hol_kernel.specs.Logs.{thm}
use Rattle.hol_kernel.proofs.Making.{err_free}
use Rattle.hol_derived.specs.Paths.{replaced_at}
use Rattle.hol_derived.proofs.Holes.{gap_is}
use Rattle.hol_derived.proofs.ContextLaws.{context_made}
use Rattle.hol_derived.proofs.replacing.context.Goals as goal

pub conclusion-equation-requires : goal.conclusion-equation-requires
conclusion-equation-requires c = c.requires.eq

pub returns-in_err-own : goal.returns-in_err-own
returns-in_err-own c = err_free c.from_residual.result _ c.from_residual.ensures.0

pub conclusion-requires : goal.conclusion-requires
conclusion-requires c = c.requires.th

pub returns-in_err-body : goal.returns-in_err-body
returns-in_err-body c = err_free c.from_residual-in_err-body.result _ c.from_residual-in_err-body.ensures.0

pub returns : goal.returns
returns c =
    let sig = c.args.log.now.env.sig in
    let e = (thm c.args.log.now c.args.eq.0).concl in
    let t = (thm c.args.log.now c.args.th.0).concl in
    context_made sig e t c.args.path.now c.requires.is (subst (IsFormula sig) c.conclusion-equation.ensures.value c.conclusion-equation.ensures.formula) (subst (IsFormula sig) c.conclusion.ensures.value c.conclusion.ensures.formula)
    c.requires.part c.lambda.result c.in_ok-own.own c.in_ok-body.body (c.in_ok-own.ensures ∙ ap head_ty c.conclusion-equation.ensures.value)
    (c.in_ok-body.ensures ∙ (λ i. replaced_at c.args.path.now (gap_is i) (c.conclusion.ensures.value i))) c.lambda.ensures
