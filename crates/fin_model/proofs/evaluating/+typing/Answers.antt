use Rattle.std.proofs.Common.{◌≡◌, ◌∙◌, sym, ap, subst, arith, List, [], Some}
use Rattle.hol_terms.specs.declared.term.Term.{Term}
use Rattle.hol_terms.specs.declared.ty.Ty.{Ty}
use Rattle.hol_terms.specs.Typing.{type_in}
use Rattle.kernel_rules.specs.Connectives.{lambda}
use Rattle.fin_model.specs.inner.Around.{types_of}
use Rattle.fin_model.specs.inner.Evaluation.{IsTyped}
use Rattle.fin_model.specs.inner.Nodes.{nodes}
use Rattle.fin_model.proofs.Chains.{under_types}
use Rattle.fin_model.proofs.Views.{app_is, lam_is}
use Rattle.fin_model.proofs.Counting.{nodes-app, nodes-lam}
use Rattle.fin_model.proofs.Worths.{function_has_type, body_has_type, result_typed}
use Rattle.fin_model.proofs.evaluating.+typing.Goals as goal

pub ty_under-ty_under-requires : goal.ty_under-ty_under-requires
ty_under-ty_under-requires t c =
    let e = ap nodes (c.in-App.is ∙ app_is c.in-App.f c.in-App.field-1) ∙ nodes-app c.in-App.f c.in-App.field-1 in
    let g = ap nodes c.get.ensures in (
      omega (arith, c.decreases),
      subst (λ (z : Term). (a : Ty) × (type_in c.args.world.now.sig.now z (types_of c.args.around.now) ≡ Some a)) (sym c.get.ensures)
          (function_has_type c.args.world.now (types_of c.args.around.now) [] c.in-App.f c.in-App.field-1 (subst (λ (z : Term). (a : Ty) × (type_in c.args.world.now.sig.now z (types_of c.args.around.now) ≡ Some a)) (c.in-App.is ∙ app_is c.in-App.f c.in-App.field-1) c.requires)),
    )

pub ty_under-returns-in_ok-function-in-App : goal.ty_under-returns-in_ok-function-in-App
ty_under-returns-in_ok-function-in-App t c =
    subst (λ (z : Term). IsTyped c.args.world.now (types_of c.args.around.now) z c.result_ty.result) (sym (c.in-App.is ∙ app_is c.in-App.f c.in-App.field-1))
    (result_typed c.args.world.now (types_of c.args.around.now) [] c.in-App.f c.in-App.field-1 c.in_ok-function-in-App.function c.result_ty.result
    (subst (λ (z : Term). (a : Ty) × (type_in c.args.world.now.sig.now z (types_of c.args.around.now) ≡ Some a)) (c.in-App.is ∙ app_is c.in-App.f c.in-App.field-1) c.requires)
    (ap (λ (z : Term). type_in c.args.world.now.sig.now z (types_of c.args.around.now)) (sym c.get.ensures) ∙ c.in_ok-function-in-App.ensures) c.result_ty.ensures)

pub ty_under-lambda_ty-requires : goal.ty_under-lambda_ty-requires
ty_under-lambda_ty-requires t c =
    let e = ap nodes (c.in-Lam.is ∙ lam_is c.in-Lam.a c.in-Lam.b) ∙ nodes-lam c.in-Lam.a c.in-Lam.b in
    let g = ap nodes c.get-in-Lam.ensures in
    (omega (arith, c.decreases), subst (λ (z : Term). (a : Ty) × (type_in c.args.world.now.sig.now z (types_of c.args.around.now) ≡ Some a)) ((c.in-Lam.is ∙ lam_is c.in-Lam.a c.in-Lam.b) ∙ sym (ap (lambda c.in-Lam.a) c.get-in-Lam.ensures)) c.requires)

pub ty_under-returns-in-Lam : goal.ty_under-returns-in-Lam
ty_under-returns-in-Lam t c =
    subst (λ (z : Term). IsTyped c.args.world.now (types_of c.args.around.now) z c.lambda_ty.result) (sym ((c.in-Lam.is ∙ lam_is c.in-Lam.a c.in-Lam.b) ∙ sym (ap (lambda c.in-Lam.a) c.get-in-Lam.ensures))) c.lambda_ty.ensures

pub lambda_ty-ty_under-requires : goal.lambda_ty-ty_under-requires
lambda_ty-ty_under-requires t c = (
  omega (arith, c.decreases),
  subst (λ (ts : List Ty). (a : Ty) × (type_in c.args.world.now.sig.now c.args.b.now ts ≡ Some a)) (sym (under_types c.args.ty 0 c.args.around))
      (body_has_type c.args.world.now (types_of c.args.around.now) [] c.args.ty.now c.args.b.now c.requires),
)
