use Rattle.std.proofs.lemmas.List.Elements.{All-push}
use Rattle.std.proofs.Common.{subst, sym}
use Rattle.std.specs.Prelude.{All}
use Rattle.fo_unify.specs.inner.Triangle.{Lacks}
use Rattle.fo_unify.proofs.Agreeing.{sees}
use Rattle.fo_unify.proofs.triangle.see.Goals as goal

pub returns-in_ok-push-in-Var : goal.returns-in_ok-push-in-Var
returns-in_ok-push-in-Var c = λ bs x lacks each.
    subst (All (Lacks bs x)) (sym c.in_ok-push-in-Var.ensures.ok) (All-push (Lacks bs x) c.args.seen.now c.in-Var.x each (sees bs x c.in-Var.x c.args.t.now c.in-Var.is lacks))
