use Rattle.std.proofs.Common.{◌↔◌, ◌∙◌, IsTrue, ap, subst}
use Rattle.fo_unify.specs.Shown.{as_binds}
use Rattle.fo_unify.specs.Unifier.{Equates}
use Rattle.fo_unify.specs.inner.Triangle.{solution}
use Rattle.fo_unify.proofs.Closing.{solution_is}
use Rattle.fo_unify.proofs.bound.Bindings.makes_same.Goals as goal

pub returns : goal.returns
returns c =
    subst (λ u. IsTrue c.in_ok-same.same ↔ Equates u c.args.s.now c.args.t.now)
    (ap (λ bs. solution (as_binds bs)) c.as_slice.ensures ∙ solution_is (as_binds c.self.inside.binds) c.args.self.now c.self.invariant c.self.view_is) c.in_ok-same.ensures.same
