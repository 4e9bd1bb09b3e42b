use Rattle.std.proofs.Common.{◌≡◌, ℕ, ◌-◌, ◌≤◌, ◌==◌, refl, sym, ◌∙◌, ap, subst, arith, List, ◌∷◌, Some, Err}
use Rattle.hol_terms.specs.declared.ty.Ty.{Ty}
use Rattle.hol_terms.specs.declared.term.Term.{Term}
use Rattle.hol_terms.specs.Typing.{type_in}
use Rattle.kernel_rules.specs.Connectives.{constant, apply, lambda}
use Rattle.fin_model.specs.Limits.{product}
use Rattle.fin_model.specs.inner.Around.{types_of, values_of}
use Rattle.fin_model.specs.inner.Nodes.{nodes}
use Rattle.fin_model.specs.inner.Evaluation.{IsReady, IsWorth, Evaluates, IsSize, Sizes, Seeks, body_at, Passed, BuiltTo}
use Rattle.fin_model.proofs.Views.{bound_is, free_is, con_is, app_is, lam_is}
use Rattle.fin_model.proofs.Counting.{nodes-app, nodes-lam}
use Rattle.fin_model.proofs.Chains.{under_types, to_under, from_under}
use Rattle.fin_model.proofs.High.{high_none}
use Rattle.fin_model.proofs.Worths.{beq_so, beq_not, handed, handed_on, size_too_big, too_big, size_some, ready_function, ready_argument, ready_left, ready_inside, inside_is, binder_property, refused_binder, binder_worth, not_argument_false, not_worth, negated_true, negated_false, left_false, right_false, two_worth, other_function_false, other_argument_false, other_worth, property_body, seeks_at, refused_seek, property_alone, property_small, digit_sought, refused_property_size, refused_property_product, refused_property, lam_sought_at, lam_none, passed_more, refused_size, refused_product, refused_body, body_has_type, built_fits, built_more, lam_worth}
use Rattle.fin_model.proofs.evaluating.+evaluating.Goals as goal

pub worth-size_under-requires : goal.worth-size_under-requires
worth-size_under-requires t c =
    c.requires.ready.typed

pub worth-returns-in_err-size : goal.worth-returns-in_err-size
worth-returns-in_err-size t c =
    handed c.args.world.now (types_of c.args.around.now) (values_of c.args.around.now) c.args.t.now c.from_residual.result c.in_err-size.field-0.0 c.from_residual.ensures.1 (size_too_big c.args.world.now (types_of c.args.around.now) (values_of c.args.around.now) c.args.t.now c.in_err-size.field-0.0 c.in_err-size.ensures)

pub worth-bound-requires-clause-ready : goal.worth-bound-requires-clause-ready
worth-bound-requires-clause-ready t c =
    subst (λ (z : Term). IsReady c.args.world.now (types_of c.args.around.now) (values_of c.args.around.now) z) (c.in-Bound.is ∙ bound_is c.in-Bound.i) c.requires.ready

pub worth-bound-requires-clause-size : goal.worth-bound-requires-clause-size
worth-bound-requires-clause-size t c =
    (c.in_ok-size.size, subst (λ (z : Term). IsSize c.args.world.now (types_of c.args.around.now) z c.in_ok-size.size) (c.in-Bound.is ∙ bound_is c.in-Bound.i) c.in_ok-size.ensures)

pub worth-returns-in-Bound : goal.worth-returns-in-Bound
worth-returns-in-Bound t c =
    subst (λ (z : Term). IsWorth c.args.world.now (types_of c.args.around.now) (values_of c.args.around.now) z c.bound.result) (sym (c.in-Bound.is ∙ bound_is c.in-Bound.i)) c.bound.ensures

pub worth-free-requires-clause-ready : goal.worth-free-requires-clause-ready
worth-free-requires-clause-ready t c =
    subst (λ (z : Term). IsReady c.args.world.now (types_of c.args.around.now) (values_of c.args.around.now) z) (c.in-Free.is ∙ free_is c.in-Free.n c.in-Free.a) c.requires.ready

pub worth-free-requires-clause-size : goal.worth-free-requires-clause-size
worth-free-requires-clause-size t c =
    (c.in_ok-size.size, subst (λ (z : Term). IsSize c.args.world.now (types_of c.args.around.now) z c.in_ok-size.size) (c.in-Free.is ∙ free_is c.in-Free.n c.in-Free.a) c.in_ok-size.ensures)

pub worth-returns-in-Free : goal.worth-returns-in-Free
worth-returns-in-Free t c =
    subst (λ (z : Term). IsWorth c.args.world.now (types_of c.args.around.now) (values_of c.args.around.now) z c.free.result) (sym (c.in-Free.is ∙ free_is c.in-Free.n c.in-Free.a)) c.free.ensures

pub worth-constant-requires-clause-ready : goal.worth-constant-requires-clause-ready
worth-constant-requires-clause-ready t c =
    subst (λ (z : Term). IsReady c.args.world.now (types_of c.args.around.now) (values_of c.args.around.now) z) (c.in-Con.is ∙ con_is c.in-Con.k) c.requires.ready

pub worth-constant-requires-clause-size : goal.worth-constant-requires-clause-size
worth-constant-requires-clause-size t c =
    (c.in_ok-size.size, subst (λ (z : Term). IsSize c.args.world.now (types_of c.args.around.now) z c.in_ok-size.size) (c.in-Con.is ∙ con_is c.in-Con.k) c.in_ok-size.ensures)

pub worth-returns-in-Con : goal.worth-returns-in-Con
worth-returns-in-Con t c =
    subst (λ (z : Term). IsWorth c.args.world.now (types_of c.args.around.now) (values_of c.args.around.now) z c.constant.result) (sym (c.in-Con.is ∙ con_is c.in-Con.k)) c.constant.ensures

pub worth-application-requires : goal.worth-application-requires
worth-application-requires t c =
    let e = ap nodes (c.in-App.is ∙ app_is c.in-App.f c.in-App.x) ∙ nodes-app c.in-App.f c.in-App.x in
    let g = ap nodes c.get.ensures in
    let h = ap nodes c.get-in-App.ensures in (
      omega (arith, c.decreases),
      (
        subst (λ (z : Term). IsReady c.args.world.now (types_of c.args.around.now) (values_of c.args.around.now) z) ((c.in-App.is ∙ app_is c.in-App.f c.in-App.x) ∙ sym (λ i. apply (c.get.ensures i) (c.get-in-App.ensures i))) c.requires.ready,
        (c.requires.product, subst (λ (z : Term). IsSize c.args.world.now (types_of c.args.around.now) z c.in_ok-size.size) ((c.in-App.is ∙ app_is c.in-App.f c.in-App.x) ∙ sym (λ i. apply (c.get.ensures i) (c.get-in-App.ensures i))) c.in_ok-size.ensures),
      ),
    )

pub worth-returns-in-App : goal.worth-returns-in-App
worth-returns-in-App t c =
    subst (λ (z : Term). Evaluates c.args.world.now (types_of c.args.around.now) (values_of c.args.around.now) z c.application.result) (sym ((c.in-App.is ∙ app_is c.in-App.f c.in-App.x) ∙ sym (λ i. apply (c.get.ensures i) (c.get-in-App.ensures i)))) c.application.ensures

pub worth-lambda-requires : goal.worth-lambda-requires
worth-lambda-requires t c =
    let e = ap nodes (c.in-Lam.is ∙ lam_is c.in-Lam.a c.in-Lam.b) ∙ nodes-lam c.in-Lam.a c.in-Lam.b in
    let g = ap nodes c.get-in-Lam.ensures in (
      omega (arith, c.decreases),
      (
        subst (λ (z : Term). IsReady c.args.world.now (types_of c.args.around.now) (values_of c.args.around.now) z) ((c.in-Lam.is ∙ lam_is c.in-Lam.a c.in-Lam.b) ∙ sym (ap (lambda c.in-Lam.a) c.get-in-Lam.ensures)) c.requires.ready,
        (c.requires.product, (c.in_ok-size.size, subst (λ (z : Term). IsSize c.args.world.now (types_of c.args.around.now) z c.in_ok-size.size) ((c.in-Lam.is ∙ lam_is c.in-Lam.a c.in-Lam.b) ∙ sym (ap (lambda c.in-Lam.a) c.get-in-Lam.ensures)) c.in_ok-size.ensures)),
      ),
    )

pub worth-returns-in-Lam : goal.worth-returns-in-Lam
worth-returns-in-Lam t c =
    subst (λ (z : Term). Evaluates c.args.world.now (types_of c.args.around.now) (values_of c.args.around.now) z c.lambda.result) (sym ((c.in-Lam.is ∙ lam_is c.in-Lam.a c.in-Lam.b) ∙ sym (ap (lambda c.in-Lam.a) c.get-in-Lam.ensures))) c.lambda.ensures

pub application-first-requires : goal.application-first-requires
application-first-requires t c = (
  omega (arith, c.decreases),
  (
    ready_argument c.args.world.now (types_of c.args.around.now) (values_of c.args.around.now) c.args.f.now c.args.x.now c.requires.ready,
    (c.requires.product, binder_property c.args.world.now (types_of c.args.around.now) (values_of c.args.around.now) c.args.f.now c.args.x.now c.in-Binder.k.now c.in-Binder.a.now c.requires.ready c.in-Binder.ensures.0 c.in-Binder.ensures.1.0 c.in-Binder.ensures.1.1),
  ),
)

pub application-returns-in_err-found-in-Binder : goal.application-returns-in_err-found-in-Binder
application-returns-in_err-found-in-Binder t c =
    handed c.args.world.now (types_of c.args.around.now) (values_of c.args.around.now) (apply c.args.f.now c.args.x.now) c.from_residual.result c.in_err-found-in-Binder.field-0.0 c.from_residual.ensures.1
    (refused_binder c.args.world.now (types_of c.args.around.now) (values_of c.args.around.now) c.args.f.now c.args.x.now c.in-Binder.k.now c.in-Binder.a.now c.sought.result c.in_err-found-in-Binder.field-0.0 c.in-Binder.ensures.0 c.in-Binder.ensures.1.0 c.in_err-found-in-Binder.ensures)

pub application-returns-in_ok-found-in-Binder : goal.application-returns-in_ok-found-in-Binder
application-returns-in_ok-found-in-Binder t c =
    subst (λ (z : ℕ). IsWorth c.args.world.now (types_of c.args.around.now) (values_of c.args.around.now) (apply c.args.f.now c.args.x.now) z) (sym c.told.ensures)
    (binder_worth c.args.world.now (types_of c.args.around.now) (values_of c.args.around.now) c.args.f.now c.args.x.now c.in-Binder.k.now c.in-Binder.a.now c.args.size c.sought.result c.in_ok-found-in-Binder.found c.requires.ready c.requires.size c.in-Binder.ensures.0 c.in-Binder.ensures.1.0 c.in-Binder.ensures.1.1 c.sought.ensures c.in_ok-found-in-Binder.ensures)

pub application-worth-requires : goal.application-worth-requires
application-worth-requires t c =
    (omega (arith, c.decreases), (ready_argument c.args.world.now (types_of c.args.around.now) (values_of c.args.around.now) c.args.f.now c.args.x.now c.requires.ready, c.requires.product))

pub application-returns-in_err-value-in-Not : goal.application-returns-in_err-value-in-Not
application-returns-in_err-value-in-Not t c =
    handed c.args.world.now (types_of c.args.around.now) (values_of c.args.around.now) (apply c.args.f.now c.args.x.now) c.from_residual-in_err-value-in-Not.result c.in_err-value-in-Not.field-0.0 c.from_residual-in_err-value-in-Not.ensures.1
    (too_big c.args.world.now (types_of c.args.around.now) (values_of c.args.around.now) c.args.x.now (apply c.args.f.now c.args.x.now) c.in_err-value-in-Not.field-0.0 (not_argument_false c.args.world.now (types_of c.args.around.now) (values_of c.args.around.now) c.args.f.now c.args.x.now c.in-Not.ensures) c.in_err-value-in-Not.ensures)

pub application-returns-then-value-eq1 : goal.application-returns-then-value-eq1
application-returns-then-value-eq1 t c =
    subst (λ (z : ℕ). IsWorth c.args.world.now (types_of c.args.around.now) (values_of c.args.around.now) (apply c.args.f.now c.args.x.now) z) (negated_true c.args.world.now (types_of c.args.around.now) (values_of c.args.around.now) c.in_ok-value-in-Not.value c.if-value-eq1.true)
    (not_worth c.args.world.now (types_of c.args.around.now) (values_of c.args.around.now) c.args.f.now c.args.x.now c.args.size c.in_ok-value-in-Not.value c.requires.ready c.requires.size c.in-Not.ensures c.in_ok-value-in-Not.ensures)

pub application-returns-else-value-eq1 : goal.application-returns-else-value-eq1
application-returns-else-value-eq1 t c =
    subst (λ (z : ℕ). IsWorth c.args.world.now (types_of c.args.around.now) (values_of c.args.around.now) (apply c.args.f.now c.args.x.now) z) (negated_false c.args.world.now (types_of c.args.around.now) (values_of c.args.around.now) c.in_ok-value-in-Not.value c.if-value-eq1.false)
    (not_worth c.args.world.now (types_of c.args.around.now) (values_of c.args.around.now) c.args.f.now c.args.x.now c.args.size c.in_ok-value-in-Not.value c.requires.ready c.requires.size c.in-Not.ensures c.in_ok-value-in-Not.ensures)

pub application-worth-requires-in-Two : goal.application-worth-requires-in-Two
application-worth-requires-in-Two t c =
    let e = ap nodes c.in-Two.ensures.0 ∙ nodes-app (constant c.in-Two.k.now) c.in-Two.y.now in
    (omega (arith, c.decreases), (ready_left c.args.world.now (types_of c.args.around.now) (values_of c.args.around.now) c.args.f.now c.args.x.now c.in-Two.y.now c.in-Two.k.now c.requires.ready c.in-Two.ensures.0, c.requires.product))

pub application-worth-requires-in-Two-2 : goal.application-worth-requires-in-Two-2
application-worth-requires-in-Two-2 t c =
    (omega (arith, c.decreases), (ready_argument c.args.world.now (types_of c.args.around.now) (values_of c.args.around.now) c.args.f.now c.args.x.now c.requires.ready, c.requires.product))

pub application-returns-in_err-left-in-Two : goal.application-returns-in_err-left-in-Two
application-returns-in_err-left-in-Two t c =
    handed c.args.world.now (types_of c.args.around.now) (values_of c.args.around.now) (apply c.args.f.now c.args.x.now) c.from_residual-in_err-left-in-Two.result c.in_err-left-in-Two.field-0.0 c.from_residual-in_err-left-in-Two.ensures.1
    (too_big c.args.world.now (types_of c.args.around.now) (values_of c.args.around.now) c.in-Two.y.now (apply c.args.f.now c.args.x.now) c.in_err-left-in-Two.field-0.0 (left_false c.args.world.now (types_of c.args.around.now) (values_of c.args.around.now) c.args.f.now c.args.x.now c.in-Two.y.now c.in-Two.k.now c.in-Two.ensures.0 c.in-Two.ensures.1) c.in_err-left-in-Two.ensures)

pub application-returns-in_err-right-in-Two : goal.application-returns-in_err-right-in-Two
application-returns-in_err-right-in-Two t c =
    handed c.args.world.now (types_of c.args.around.now) (values_of c.args.around.now) (apply c.args.f.now c.args.x.now) c.from_residual-in_err-right-in-Two.result c.in_err-right-in-Two.field-0.0 c.from_residual-in_err-right-in-Two.ensures.1
    (too_big c.args.world.now (types_of c.args.around.now) (values_of c.args.around.now) c.args.x.now (apply c.args.f.now c.args.x.now) c.in_err-right-in-Two.field-0.0 (right_false c.args.world.now (types_of c.args.around.now) (values_of c.args.around.now) c.args.f.now c.args.x.now c.in-Two.y.now c.in-Two.k.now c.in-Two.ensures.0 c.in-Two.ensures.1) c.in_err-right-in-Two.ensures)

pub application-returns-in_ok-right-in-Two : goal.application-returns-in_ok-right-in-Two
application-returns-in_ok-right-in-Two t c =
    subst (λ (z : ℕ). IsWorth c.args.world.now (types_of c.args.around.now) (values_of c.args.around.now) (apply c.args.f.now c.args.x.now) z) (sym c.two.ensures)
    (two_worth c.args.world.now (types_of c.args.around.now) (values_of c.args.around.now) c.args.f.now c.args.x.now c.in-Two.y.now c.in-Two.k.now c.args.size c.in_ok-left-in-Two.left c.in_ok-right-in-Two.right c.requires.ready c.requires.size c.in-Two.ensures.0 c.in-Two.ensures.1 c.in_ok-left-in-Two.ensures c.in_ok-right-in-Two.ensures)

pub application-worth-requires-in-Other : goal.application-worth-requires-in-Other
application-worth-requires-in-Other t c =
    (omega (arith, c.decreases), (ready_function c.args.world.now (types_of c.args.around.now) (values_of c.args.around.now) c.args.f.now c.args.x.now c.requires.ready, c.requires.product))

pub application-worth-requires-in-Other-2 : goal.application-worth-requires-in-Other-2
application-worth-requires-in-Other-2 t c =
    (omega (arith, c.decreases), (ready_argument c.args.world.now (types_of c.args.around.now) (values_of c.args.around.now) c.args.f.now c.args.x.now c.requires.ready, c.requires.product))

pub application-returns-in_err-function-in-Other : goal.application-returns-in_err-function-in-Other
application-returns-in_err-function-in-Other t c =
    handed c.args.world.now (types_of c.args.around.now) (values_of c.args.around.now) (apply c.args.f.now c.args.x.now) c.from_residual-in_err-function-in-Other.result c.in_err-function-in-Other.field-0.0 c.from_residual-in_err-function-in-Other.ensures.1
    (too_big c.args.world.now (types_of c.args.around.now) (values_of c.args.around.now) c.args.f.now (apply c.args.f.now c.args.x.now) c.in_err-function-in-Other.field-0.0 (other_function_false c.args.world.now (types_of c.args.around.now) (values_of c.args.around.now) c.args.f.now c.args.x.now c.in-Other.ensures) c.in_err-function-in-Other.ensures)

pub application-returns-in_err-argument-in-Other : goal.application-returns-in_err-argument-in-Other
application-returns-in_err-argument-in-Other t c =
    handed c.args.world.now (types_of c.args.around.now) (values_of c.args.around.now) (apply c.args.f.now c.args.x.now) c.from_residual-in_err-argument-in-Other.result c.in_err-argument-in-Other.field-0.0 c.from_residual-in_err-argument-in-Other.ensures.1
    (too_big c.args.world.now (types_of c.args.around.now) (values_of c.args.around.now) c.args.x.now (apply c.args.f.now c.args.x.now) c.in_err-argument-in-Other.field-0.0 (other_argument_false c.args.world.now (types_of c.args.around.now) (values_of c.args.around.now) c.args.f.now c.args.x.now c.in-Other.ensures) c.in_err-argument-in-Other.ensures)

pub application-digit-requires : goal.application-digit-requires
application-digit-requires t c =
    size_some c.args.world.now (types_of c.args.around.now) (values_of c.args.around.now) (apply c.args.f.now c.args.x.now) c.args.size c.requires.ready c.requires.size

pub application-returns-in_ok-argument-in-Other : goal.application-returns-in_ok-argument-in-Other
application-returns-in_ok-argument-in-Other t c =
    subst (λ (z : ℕ). IsWorth c.args.world.now (types_of c.args.around.now) (values_of c.args.around.now) (apply c.args.f.now c.args.x.now) z) (sym c.digit.ensures)
    (other_worth c.args.world.now (types_of c.args.around.now) (values_of c.args.around.now) c.args.f.now c.args.x.now c.args.size c.in_ok-function-in-Other.function c.in_ok-argument-in-Other.argument c.requires.ready c.requires.size c.in-Other.ensures c.in_ok-function-in-Other.ensures c.in_ok-argument-in-Other.ensures)

pub first-first_under-requires : goal.first-first_under-requires
first-first_under-requires t c =
    let e = ap nodes (c.in-Lam.is ∙ lam_is c.in-Lam.a c.in-Lam.b) ∙ nodes-lam c.in-Lam.a c.in-Lam.b in
    let g = ap nodes c.get.ensures in (
      omega (arith, c.decreases),
      (
        subst (λ (z : Term). IsReady c.args.world.now (types_of c.args.around.now) (values_of c.args.around.now) z) ((c.in-Lam.is ∙ lam_is c.in-Lam.a c.in-Lam.b) ∙ sym (ap (lambda c.in-Lam.a) c.get.ensures)) c.requires.ready,
        (
          c.requires.product,
          ap (λ (z : Term). type_in c.args.world.now.sig.now z (c.in-Lam.a ∷ types_of c.args.around.now)) c.get.ensures
              ∙ (property_body c.args.world.now (types_of c.args.around.now) (values_of c.args.around.now) c.args.ty.now c.in-Lam.a c.in-Lam.b (sym (ap (λ (z : Term). type_in c.args.world.now.sig.now z (types_of c.args.around.now)) (c.in-Lam.is ∙ lam_is c.in-Lam.a c.in-Lam.b)) ∙ c.requires.typed)).1,
        ),
      ),
    )

pub first-returns-in-Lam : goal.first-returns-in-Lam
first-returns-in-Lam t c =
    subst (λ (z : Term). Seeks c.args.world.now (types_of c.args.around.now) (values_of c.args.around.now) c.args.ty.now z c.args.wanted c.first_under.result) (sym ((c.in-Lam.is ∙ lam_is c.in-Lam.a c.in-Lam.b) ∙ sym (ap (lambda c.in-Lam.a) c.get.ensures)))
    (seeks_at c.args.world.now (types_of c.args.around.now) (values_of c.args.around.now) c.in-Lam.a c.args.ty.now (lambda c.in-Lam.a c.get.result.now) c.args.wanted c.first_under.result
    (property_body c.args.world.now (types_of c.args.around.now) (values_of c.args.around.now) c.args.ty.now c.in-Lam.a c.in-Lam.b (sym (ap (λ (z : Term). type_in c.args.world.now.sig.now z (types_of c.args.around.now)) (c.in-Lam.is ∙ lam_is c.in-Lam.a c.in-Lam.b)) ∙ c.requires.typed)).0 c.first_under.ensures)

pub first-worth-requires : goal.first-worth-requires
first-worth-requires t c =
    (omega (arith, c.decreases), (c.requires.ready, c.requires.product))

pub first-returns-in_err-value-in_default : goal.first-returns-in_err-value-in_default
first-returns-in_err-value-in_default t c =
    handed_on c.args.world.now (types_of c.args.around.now) (values_of c.args.around.now) c.args.ty.now c.args.x.now c.args.wanted c.from_residual.result c.in_err-value-in_default.field-0.0 c.from_residual.ensures.1
    (refused_seek c.args.world.now (types_of c.args.around.now) (values_of c.args.around.now) c.args.ty.now c.args.x.now c.args.wanted c.in_err-value-in_default.field-0.0 (property_alone c.args.world.now (types_of c.args.around.now) (values_of c.args.around.now) c.args.x.now (λ a b e. c.in_default.not-Lam a b (e ∙ sym (lam_is a b)))) c.in_err-value-in_default.ensures)

pub first-counted-requires : goal.first-counted-requires
first-counted-requires t c =
    property_small c.args.world.now (types_of c.args.around.now) (values_of c.args.around.now) c.args.ty.now c.args.x.now c.in_ok-value-in_default.value c.requires.ready c.requires.typed c.in_ok-value-in_default.ensures

pub first-returns-in_ok-value-in_default : goal.first-returns-in_ok-value-in_default
first-returns-in_ok-value-in_default t c =
    digit_sought c.args.world.now (types_of c.args.around.now) (values_of c.args.around.now) c.args.ty.now c.args.x.now c.counted.result c.in_ok-value-in_default.value c.args.wanted c.first_digit.result c.requires.ready c.counted.ensures c.in_ok-value-in_default.ensures
    (property_alone c.args.world.now (types_of c.args.around.now) (values_of c.args.around.now) c.args.x.now (λ a b e. c.in_default.not-Lam a b (e ∙ sym (lam_is a b)))) c.first_digit.ensures

pub first_under-returns-in_err-count : goal.first_under-returns-in_err-count
first_under-returns-in_err-count t c =
    handed_on c.args.world.now (types_of c.args.around.now) (values_of c.args.around.now) c.args.ty.now (lambda c.args.ty.now c.args.b.now) c.args.wanted c.from_residual.result c.in_err-count.field-0.0 c.from_residual.ensures.1 (refused_property_size c.args.world.now (types_of c.args.around.now) (values_of c.args.around.now) c.args.ty.now c.args.b.now c.args.wanted c.in_err-count.field-0.0 c.in_err-count.ensures)

pub first_under-entered-requires : goal.first_under-entered-requires
first_under-entered-requires t c =
    (subst (λ (z : ℕ). z ≤ 4096) (sym c.requires.product) c.requires.ready.few, subst (λ (z : ℕ). z ≤ 65536) (sym c.in_ok-count.ensures.0) c.in_ok-count.ensures.1)

pub first_under-returns-in_err-inside : goal.first_under-returns-in_err-inside
first_under-returns-in_err-inside t c =
    handed_on c.args.world.now (types_of c.args.around.now) (values_of c.args.around.now) c.args.ty.now (lambda c.args.ty.now c.args.b.now) c.args.wanted c.from_residual-in_err-inside.result c.in_err-inside.field-0.0 c.from_residual-in_err-inside.ensures.1
    (refused_property_product c.args.world.now (types_of c.args.around.now) (values_of c.args.around.now) c.args.ty.now c.args.b.now c.args.wanted c.args.product c.in_ok-count.count c.in_err-inside.field-0.0 c.requires.product c.in_ok-count.ensures.0 c.in_err-inside.ensures)

pub first_under-loop-v-init : goal.first_under-loop-v-init
first_under-loop-v-init t c =
    record { none = λ v h. absurd (omega (arith, h)); within = λ h. absurd (omega (arith, h)) }

pub first_under-worth-requires : goal.first_under-worth-requires
first_under-worth-requires t c = (
  omega (arith, c.decreases),
  (
    to_under (λ (ts : List Ty) (vs : List ℕ). IsReady c.args.world.now ts vs c.args.b.now) c.args.ty c.loop-v.v c.args.around
        (ready_inside c.args.world.now (types_of c.args.around.now) (values_of c.args.around.now) c.args.ty.now c.args.b.now c.loop-v.v c.args.product c.in_ok-count.count c.in_ok-inside.inside c.requires.ready c.requires.product c.in_ok-count.ensures.0 c.in_ok-inside.ensures c.loop-v-test.true),
    inside_is c.args.world.now (types_of c.args.around.now) (values_of c.args.around.now) c.args.ty.now c.args.product c.in_ok-count.count c.in_ok-inside.inside c.requires.product c.in_ok-count.ensures.0 c.in_ok-inside.ensures.0 ∙ ap (product c.args.world.now.model.now) (sym (under_types c.args.ty c.loop-v.v c.args.around)),
  ),
)

pub first_under-returns-in_err-value : goal.first_under-returns-in_err-value
first_under-returns-in_err-value t c =
    handed_on c.args.world.now (types_of c.args.around.now) (values_of c.args.around.now) c.args.ty.now (lambda c.args.ty.now c.args.b.now) c.args.wanted c.from_residual-in_err-value.result c.in_err-value.field-0.0 c.from_residual-in_err-value.ensures.1
    (refused_property c.args.world.now (types_of c.args.around.now) (values_of c.args.around.now) c.args.ty.now c.args.b.now c.args.wanted c.loop-v.v c.in_err-value.field-0.0 (from_under (λ (ts : List Ty) (vs : List ℕ). Evaluates c.args.world.now ts vs c.args.b.now (Err c.in_err-value.field-0.0)) c.args.ty c.loop-v.v c.args.around c.in_err-value.ensures))

pub first_under-returns-then-value-wanted : goal.first_under-returns-then-value-wanted
first_under-returns-then-value-wanted t c =
    lam_sought_at c.args.world.now (types_of c.args.around.now) (values_of c.args.around.now) c.args.ty.now c.args.b.now c.in_ok-count.count c.loop-v.v c.in_ok-value.value c.args.wanted c.requires.ready c.requires.typed c.in_ok-count.ensures c.loop-v-test.true c.loop-v.invariant (from_under (λ (ts : List Ty) (vs : List ℕ). IsWorth c.args.world.now ts vs c.args.b.now c.in_ok-value.value) c.args.ty c.loop-v.v c.args.around c.in_ok-value.ensures) (beq_so (c.in_ok-value.value == 1) c.args.wanted c.if-value-wanted.true)

pub first_under-loop-v-smaller : goal.first_under-loop-v-smaller
first_under-loop-v-smaller t c =
    omega arith

pub first_under-loop-v-preserved : goal.first_under-loop-v-preserved
first_under-loop-v-preserved t c =
    passed_more c.args.world.now (types_of c.args.around.now) (values_of c.args.around.now) c.args.ty.now c.args.b.now c.args.wanted c.loop-v.v c.in_ok-value.value c.loop-v.invariant (from_under (λ (ts : List Ty) (vs : List ℕ). IsWorth c.args.world.now ts vs c.args.b.now c.in_ok-value.value) c.args.ty c.loop-v.v c.args.around c.in_ok-value.ensures) (beq_not (c.in_ok-value.value == 1) c.args.wanted c.if-value-wanted.false)

pub first_under-returns : goal.first_under-returns
first_under-returns t c =
    lam_none c.args.world.now (types_of c.args.around.now) (values_of c.args.around.now) c.args.ty.now c.args.b.now c.in_ok-count.count c.args.wanted c.requires.ready c.requires.typed c.in_ok-count.ensures.0 (subst (λ (z : ℕ). z ≤ 65536) (sym c.in_ok-count.ensures.0) c.in_ok-count.ensures.1) (subst (λ (z : ℕ). Passed c.args.world.now (types_of c.args.around.now) (values_of c.args.around.now) c.args.ty.now c.args.b.now c.args.wanted z) (omega arith) c.loop-v.invariant)

pub lambda-returns-in_err-count : goal.lambda-returns-in_err-count
lambda-returns-in_err-count t c =
    handed c.args.world.now (types_of c.args.around.now) (values_of c.args.around.now) (lambda c.args.ty.now c.args.b.now) c.from_residual.result c.in_err-count.field-0.0 c.from_residual.ensures.1 (refused_size c.args.world.now (types_of c.args.around.now) (values_of c.args.around.now) c.args.ty.now c.args.b.now c.in_err-count.field-0.0 c.in_err-count.ensures)

pub lambda-entered-requires : goal.lambda-entered-requires
lambda-entered-requires t c =
    (subst (λ (z : ℕ). z ≤ 4096) (sym c.requires.product) c.requires.ready.few, subst (λ (z : ℕ). z ≤ 65536) (sym c.in_ok-count.ensures.0) c.in_ok-count.ensures.1)

pub lambda-returns-in_err-inside : goal.lambda-returns-in_err-inside
lambda-returns-in_err-inside t c =
    handed c.args.world.now (types_of c.args.around.now) (values_of c.args.around.now) (lambda c.args.ty.now c.args.b.now) c.from_residual-in_err-inside.result c.in_err-inside.field-0.0 c.from_residual-in_err-inside.ensures.1
    (refused_product c.args.world.now (types_of c.args.around.now) (values_of c.args.around.now) c.args.ty.now c.args.b.now c.args.product c.in_ok-count.count c.in_err-inside.field-0.0 c.requires.product c.in_ok-count.ensures.0 c.in_err-inside.ensures)

pub lambda-size_under-requires : goal.lambda-size_under-requires
lambda-size_under-requires t c =
    subst (λ (ts : List Ty). (a : Ty) × (type_in c.args.world.now.sig.now c.args.b.now ts ≡ Some a)) (sym (under_types c.args.ty 0 c.args.around)) (body_has_type c.args.world.now (types_of c.args.around.now) (values_of c.args.around.now) c.args.ty.now c.args.b.now c.requires.ready.typed)

pub lambda-returns-in_err-base : goal.lambda-returns-in_err-base
lambda-returns-in_err-base t c =
    handed c.args.world.now (types_of c.args.around.now) (values_of c.args.around.now) (lambda c.args.ty.now c.args.b.now) c.from_residual-in_err-base.result c.in_err-base.field-0.0 c.from_residual-in_err-base.ensures.1
    (refused_body c.args.world.now (types_of c.args.around.now) (values_of c.args.around.now) c.args.ty.now c.args.b.now 0 c.in_err-base.field-0.0 (size_too_big c.args.world.now (c.args.ty.now ∷ types_of c.args.around.now) (0 ∷ values_of c.args.around.now) c.args.b.now c.in_err-base.field-0.0
    (subst (λ (ts : List Ty). Sizes c.args.world.now ts c.args.b.now (Err c.in_err-base.field-0.0)) (under_types c.args.ty 0 c.args.around) c.in_err-base.ensures)))

pub lambda-loop-i-init : goal.lambda-loop-i-init
lambda-loop-i-init t c =
    record { digits = sym (high_none c.in_ok-base.base c.in_ok-count.count (body_at c.args.world.now (types_of c.args.around.now) (values_of c.args.around.now) c.args.ty.now c.args.b.now)); within = λ h. absurd (omega (arith, h)) }

pub lambda-overflow_sub-v : goal.lambda-overflow_sub-v
lambda-overflow_sub-v t c =
    omega arith

pub lambda-overflow_sub-v-in-loop-i : goal.lambda-overflow_sub-v-in-loop-i
lambda-overflow_sub-v-in-loop-i t c =
    omega arith

pub lambda-worth-requires : goal.lambda-worth-requires
lambda-worth-requires t c = (
  omega (arith, c.decreases),
  (
    to_under (λ (ts : List Ty) (vs : List ℕ). IsReady c.args.world.now ts vs c.args.b.now) c.args.ty (c.in_ok-count.count - 1 - c.loop-i.i) c.args.around
        (ready_inside c.args.world.now (types_of c.args.around.now) (values_of c.args.around.now) c.args.ty.now c.args.b.now (c.in_ok-count.count - 1 - c.loop-i.i) c.args.product c.in_ok-count.count c.in_ok-inside.inside c.requires.ready c.requires.product c.in_ok-count.ensures.0 c.in_ok-inside.ensures (omega arith)),
    inside_is c.args.world.now (types_of c.args.around.now) (values_of c.args.around.now) c.args.ty.now c.args.product c.in_ok-count.count c.in_ok-inside.inside c.requires.product c.in_ok-count.ensures.0 c.in_ok-inside.ensures.0 ∙ ap (product c.args.world.now.model.now) (sym (under_types c.args.ty (c.in_ok-count.count - 1 - c.loop-i.i) c.args.around)),
  ),
)

pub lambda-returns-in_err-value : goal.lambda-returns-in_err-value
lambda-returns-in_err-value t c =
    handed c.args.world.now (types_of c.args.around.now) (values_of c.args.around.now) (lambda c.args.ty.now c.args.b.now) c.from_residual-in_err-value.result c.in_err-value.field-0.0 c.from_residual-in_err-value.ensures.1
    (refused_body c.args.world.now (types_of c.args.around.now) (values_of c.args.around.now) c.args.ty.now c.args.b.now (c.in_ok-count.count - 1 - c.loop-i.i) c.in_err-value.field-0.0 (from_under (λ (ts : List Ty) (vs : List ℕ). Evaluates c.args.world.now ts vs c.args.b.now (Err c.in_err-value.field-0.0)) c.args.ty (c.in_ok-count.count - 1 - c.loop-i.i) c.args.around c.in_err-value.ensures))

pub lambda-overflow_mul-number : goal.lambda-overflow_mul-number
lambda-overflow_mul-number t c =
    let low = built_fits c.args.world.now (types_of c.args.around.now) (values_of c.args.around.now) c.args.ty.now c.args.b.now c.in_ok-base.base c.in_ok-count.count c.loop-i.i c.loop-i.number c.requires.size.0 c.requires.ready c.requires.size.1 (subst (λ (ts : List Ty). IsSize c.args.world.now ts c.args.b.now c.in_ok-base.base) (under_types c.args.ty 0 c.args.around) c.in_ok-base.ensures) c.in_ok-count.ensures.0 c.loop-i.invariant c.loop-i-test.true in omega arith

pub lambda-overflow_add-number : goal.lambda-overflow_add-number
lambda-overflow_add-number t c =
    let low = built_fits c.args.world.now (types_of c.args.around.now) (values_of c.args.around.now) c.args.ty.now c.args.b.now c.in_ok-base.base c.in_ok-count.count c.loop-i.i c.loop-i.number c.requires.size.0 c.requires.ready c.requires.size.1 (subst (λ (ts : List Ty). IsSize c.args.world.now ts c.args.b.now c.in_ok-base.base) (under_types c.args.ty 0 c.args.around) c.in_ok-base.ensures) c.in_ok-count.ensures.0 c.loop-i.invariant c.loop-i-test.true in let same = ((from_under (λ (ts : List Ty) (vs : List ℕ). IsWorth c.args.world.now ts vs c.args.b.now c.in_ok-value.value) c.args.ty (c.in_ok-count.count - 1 - c.loop-i.i) c.args.around c.in_ok-value.ensures)).value in omega arith

pub lambda-loop-i-smaller : goal.lambda-loop-i-smaller
lambda-loop-i-smaller t c =
    omega arith

pub lambda-loop-i-preserved : goal.lambda-loop-i-preserved
lambda-loop-i-preserved t c =
    built_more c.args.world.now (types_of c.args.around.now) (values_of c.args.around.now) c.args.ty.now c.args.b.now c.in_ok-base.base c.in_ok-count.count c.loop-i.i c.loop-i.number c.in_ok-value.value (c.in_ok-count.count - 1 - c.loop-i.i) c.loop-i.invariant refl (from_under (λ (ts : List Ty) (vs : List ℕ). IsWorth c.args.world.now ts vs c.args.b.now c.in_ok-value.value) c.args.ty (c.in_ok-count.count - 1 - c.loop-i.i) c.args.around c.in_ok-value.ensures) c.loop-i-test.true

pub lambda-returns : goal.lambda-returns
lambda-returns t c =
    lam_worth c.args.world.now (types_of c.args.around.now) (values_of c.args.around.now) c.args.ty.now c.args.b.now c.in_ok-base.base c.in_ok-count.count c.loop-i.number c.requires.size.0 c.requires.ready c.requires.size.1 (subst (λ (ts : List Ty). IsSize c.args.world.now ts c.args.b.now c.in_ok-base.base) (under_types c.args.ty 0 c.args.around) c.in_ok-base.ensures) c.in_ok-count.ensures.0 (subst (λ (z : ℕ). z ≤ 65536) (sym c.in_ok-count.ensures.0) c.in_ok-count.ensures.1)
    (subst (λ (z : ℕ). BuiltTo c.args.world.now (types_of c.args.around.now) (values_of c.args.around.now) c.args.ty.now c.args.b.now c.in_ok-base.base c.in_ok-count.count z c.loop-i.number) (omega arith) c.loop-i.invariant)
