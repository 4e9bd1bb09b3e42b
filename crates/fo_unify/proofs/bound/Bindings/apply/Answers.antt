use Rattle.std.proofs.Common.{◌∙◌, ap}
use Rattle.fo_terms.specs.Substitution.{put}
use Rattle.fo_unify.specs.Shown.{as_binds}
use Rattle.fo_unify.specs.inner.Triangle.{solution}
use Rattle.fo_unify.proofs.Closing.{solution_is}
use Rattle.fo_unify.proofs.bound.Bindings.apply.Goals as goal

pub returns : goal.returns
returns c =
    c.in_ok-made.ensures
    ∙ ap (λ u. put u c.args.t.now) (ap (λ bs. solution (as_binds bs)) c.as_slice.ensures ∙ solution_is (as_binds c.self.inside.binds) c.args.self.now c.self.invariant c.self.view_is)
