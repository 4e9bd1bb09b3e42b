use Rattle.std.proofs.Common.{◌∙◌}
use Rattle.std.proofs.lemmas.Result.{IfOk-weaker}
use Rattle.hol_terms.specs.declared.konst.Konst.TheVariants as konst
use Rattle.hol_terms.specs.declared.term.Term.{roll-Term}
use Rattle.hol_terms.specs.declared.term.Term.TheOpen.{Term-F}
use Rattle.lambda_lift.specs.Scopes.{scope_types}
use Rattle.lambda_lift.specs.Walks.{reading, apply}
use Rattle.lambda_lift.specs.Views.{stage}
use Rattle.lambda_lift.proofs.Scoped.{scope_under}
use Rattle.lambda_lift.proofs.Ending.{one_ends, scope_ends}
use Rattle.lambda_lift.proofs.walk.+lift_formula.Goals as goal

pub returns-in-Atom : goal.returns-in-Atom
returns-in-Atom t c =
    IfOk-weaker c.lift_atom.result _ _
    (λ r e. (λ i. c.in-Atom.ensures.shape c.args.sig.now i (scope_types c.args.scope.now) (stage c.args.table.now c.args.met.now)) ∙ e)
    c.lift_atom.ensures

pub returns-in_ok-inner-in-Negation : goal.returns-in_ok-inner-in-Negation
returns-in_ok-inner-in-Negation t c =
    let sig = c.args.sig.now in
    IfOk-weaker c.negation.result _ _
    (λ r e. one_ends (reading sig c.args.t.now).formula (scope_types c.args.scope.now) (stage c.args.table.now c.args.met.now) (apply (roll-Term (Term-F.Con konst.Not)))
    (reading sig c.in-Negation.a.now).formula c.in_ok-inner-in-Negation.inner r _ _ (c.in-Negation.ensures.shape sig) c.in_ok-inner-in-Negation.ensures e)
    c.negation.ensures

pub returns-in_ok-inner-in-Quantifier : goal.returns-in_ok-inner-in-Quantifier
returns-in_ok-inner-in-Quantifier t c =
    let sig = c.args.sig.now in
    IfOk-weaker c.quantify.result _ _
    (λ r e. scope_ends (reading sig c.args.t.now).formula (scope_types c.args.scope.now) (stage c.args.table.now c.args.met.now) c.in-Quantifier.k.now c.in-Quantifier.ty.now
    (reading sig c.in-Quantifier.body.now).formula c.in_ok-inner-in-Quantifier.inner r _ _ (c.in-Quantifier.ensures.shape sig) (simp scope_under at c.in_ok-inner-in-Quantifier.ensures) e)
    c.quantify.ensures
