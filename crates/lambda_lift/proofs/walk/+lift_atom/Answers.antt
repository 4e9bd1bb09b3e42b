use Rattle.std.proofs.Common.{◌∙◌, sym}
use Rattle.std.proofs.lemmas.Result.{IfOk-weaker}
use Rattle.hol_terms.specs.declared.term.Term as term
use Rattle.lambda_lift.specs.Scopes.{scope_types}
use Rattle.lambda_lift.specs.Walks.{reading, apply, both}
use Rattle.lambda_lift.specs.Views.{stage}
use Rattle.lambda_lift.proofs.Made.{app_is}
use Rattle.lambda_lift.proofs.Ending.{both_ends, bound_ends, free_ends, con_ends, atom_is_both, atom_is_out}
use Rattle.lambda_lift.proofs.walk.+lift_atom.Goals as goal

pub returns-in_ok-arg-in-App : goal.returns-in_ok-arg-in-App
returns-in_ok-arg-in-App t c =
    let sig = c.args.sig.now in
    let binders = scope_types c.args.scope.now in
    both_ends (reading sig c.args.t.now).atom binders (stage c.args.table.now c.args.met.now) apply (reading sig c.get.result.now).atom (reading sig c.get-in-App.result.now).atom
    c.in_ok-lift_atom-in-App.field-0 c.in_ok-lift_atom-in-App-2.field-0 _ _ _ _ _
    (atom_is_both sig c.args.t.now binders c.args.table.now c.args.met.now c.in-App.f c.in-App.x c.in-App.is
    ∙ (λ i. both apply (reading sig (sym c.get.ensures i)).atom (reading sig (sym c.get-in-App.ensures i)).atom))
    c.in_ok-lift_atom-in-App.ensures c.in_ok-lift_atom-in-App-2.ensures
    ((λ i. term.App (c.in_ok-head-in-App.ensures i) (c.in_ok-arg-in-App.ensures i)) ∙ app_is _ _)

pub returns-in-Lam : goal.returns-in-Lam
returns-in-Lam t c =
    IfOk-weaker c.lift_out.result _ _
    (λ r e. (λ i. atom_is_out c.args.sig.now c.args.t.now (scope_types c.args.scope.now) c.args.table.now c.args.met.now _ _ c.in-Lam.is i (scope_types c.args.scope.now) (stage c.args.table.now c.args.met.now)) ∙ e)
    c.lift_out.ensures

pub returns-in-Bound : goal.returns-in-Bound
returns-in-Bound t c =
    IfOk-weaker c.copy.result _ _ (λ r e. bound_ends c.args.sig.now c.args.t.now (scope_types c.args.scope.now) c.args.table.now c.args.met.now _ r c.in-Bound.is e) c.copy.ensures

pub returns-in-Free : goal.returns-in-Free
returns-in-Free t c =
    IfOk-weaker c.copy-in-Free.result _ _ (λ r e. free_ends c.args.sig.now c.args.t.now (scope_types c.args.scope.now) c.args.table.now c.args.met.now _ _ r c.in-Free.is e) c.copy-in-Free.ensures

pub returns-in-Con : goal.returns-in-Con
returns-in-Con t c =
    IfOk-weaker c.copy-in-Con.result _ _ (λ r e. con_ends c.args.sig.now c.args.t.now (scope_types c.args.scope.now) c.args.table.now c.args.met.now _ r c.in-Con.is e) c.copy-in-Con.ensures
