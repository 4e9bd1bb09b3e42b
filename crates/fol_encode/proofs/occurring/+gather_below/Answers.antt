use Rattle.std.proofs.Common.{◌∙◌, ◌++◌, ◌∷◌, [], sym, ap}
use Rattle.lambda_lift.specs.Scopes.{scope_types}
use Rattle.lambda_lift.proofs.Scoped.{scope_under}
use Rattle.fol_encode.specs.declared.sign.Sign.TheVariants as sign
use Rattle.fol_encode.specs.Signs.{in_order}
use Rattle.fol_encode.specs.Occurring.{parts, all_signs}
use Rattle.fol_encode.proofs.Gathering.{ok_so, signs_app, signs_lam, tagged_too, applied_too}
use Rattle.fol_encode.proofs.occurring.+gather_below.Goals as goal

pub returns-in_ok-add-in-App-clause-signs : goal.returns-in_ok-add-in-App-clause-signs
returns-in_ok-add-in-App-clause-signs t c =
    let sig = c.args.sig.now in
    let table = c.args.table.now in
    let sc = scope_types c.args.scope.now in
    ok_so c.result_of.result
    (applied_too c.args.out.now (parts sig table c.get.result.now sc) (parts sig table c.get-in-App.result.now sc) c.gather_below.new.out c.gather_tag.new.out c.gather_below-in-App.new.out c.gather_tag-in-App.new.out c.add.new.self
    c.in_ok-function-in-App.function c.in_ok-argument-in-App.argument c.in_ok-function-in-App.ensures.signs c.in_ok-function-in-App.ensures.ty c.in_ok-gather_tag-in-App.ensures
    c.in_ok-argument-in-App.ensures.signs c.in_ok-argument-in-App.ensures.ty c.in_ok-gather_tag-in-App-2.ensures c.in_ok-add-in-App.ensures
    ∙ ap (in_order c.args.out.now) (sym (signs_app sig table sc c.args.t.now c.in-App.f c.in-App.x c.in-App.is
    ∙ (λ i. (all_signs (parts sig table (sym c.get.ensures i) sc) ++ all_signs (parts sig table (sym c.get-in-App.ensures i) sc)) ++ sign.Apply ∷ []))))

pub returns-in_ok-copy_ty-in-Lam-clause-signs : goal.returns-in_ok-copy_ty-in-Lam-clause-signs
returns-in_ok-copy_ty-in-Lam-clause-signs t c =
    let sig = c.args.sig.now in
    let table = c.args.table.now in
    let sc = scope_types c.args.scope.now in
    ok_so c.arrow.result
    (tagged_too c.args.out.now (parts sig table c.get-in-Lam.result.now (c.in-Lam.a ∷ sc)) c.gather_below-in-Lam.new.out c.gather_tag-in-Lam.new.out c.in_ok-to-in-Lam.to
    (simp scope_under at c.in_ok-to-in-Lam.ensures.signs) (simp scope_under at c.in_ok-to-in-Lam.ensures.ty) c.in_ok-gather_tag-in-Lam.ensures
    ∙ ap (in_order c.args.out.now) (sym (signs_lam sig table sc c.args.t.now c.in-Lam.a c.in-Lam.b c.in-Lam.is ∙ ap (λ u. all_signs (parts sig table u (c.in-Lam.a ∷ sc))) (sym c.get-in-Lam.ensures))))
