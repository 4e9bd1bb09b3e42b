use Rattle.std.proofs.Common.{◌≡◌, ◌∙◌, sym, ap, subst}
use Rattle.fo_terms.specs.Substitution.{var, put}
use Rattle.fo_unify.specs.Lookup.{term_of}
use Rattle.fo_unify.specs.Shown.{as_binds}
use Rattle.fo_unify.specs.inner.Triangle.{solution, walked}
use Rattle.fo_unify.proofs.Triangles.{walk_same, walk_root}
use Rattle.fo_unify.proofs.Closing.{solution_is}
use Rattle.fo_unify.proofs.bound.Bindings.look.Goals as goal

pub returns-clause-same : goal.returns-clause-same
returns-clause-same c =
    let bs = as_binds c.self.inside.binds in
    let stands : solution bs ≡ term_of c.args.self.now = solution_is bs c.args.self.now c.self.invariant c.self.view_is in
    let walks : c.walk.result.now ≡ walked bs c.args.t.now = c.walk.ensures ∙ ap (λ l. walked (as_binds l) c.args.t.now) c.as_slice.ensures in
    subst (λ u. put u c.walk.result.now ≡ put u c.args.t.now) stands (ap (put (solution bs)) walks ∙ walk_same bs c.args.t.now c.self.invariant)

pub returns-clause-free : goal.returns-clause-free
returns-clause-free c = λ y is.
    let bs = as_binds c.self.inside.binds in
    let stands : solution bs ≡ term_of c.args.self.now = solution_is bs c.args.self.now c.self.invariant c.self.view_is in
    let walks : c.walk.result.now ≡ walked bs c.args.t.now = c.walk.ensures ∙ ap (λ l. walked (as_binds l) c.args.t.now) c.as_slice.ensures in
    subst (λ u. u y ≡ var y) stands (walk_root bs c.args.t.now c.self.invariant y (sym walks ∙ is))
