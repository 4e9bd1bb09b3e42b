use Rattle.std.proofs.Common.{[], ◌∷◌, sym, subst}
use Rattle.fo_unify.specs.declared.triangle.Equation.{Equation}
use Rattle.fo_unify.specs.Unifier.{Unifies}
use Rattle.fo_unify.specs.Shown.{shown}
use Rattle.fo_unify.proofs.Reducing.{meets_join, shown_push}
use Rattle.fo_unify.proofs.triangle.know.Goals as goal

pub returns-in_ok-push : goal.returns-in_ok-push
returns-in_ok-push c = λ v e m.
    let pair : Equation = record { left = c.args.s; right = c.args.t } in
    subst (Unifies v) (sym (shown_push c.push.new.self c.args.known.now pair c.in_ok-push.ensures.ok))
    (meets_join v (shown c.args.known.now) ((c.args.s.now, c.args.t.now) ∷ []) m (e, tt))
