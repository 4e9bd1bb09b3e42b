use Rattle.std.proofs.Common.{◌∙◌, sym, ap, subst, refl}
use Rattle.fo_terms.specs.Substitution.{put}
use Rattle.fo_unify.specs.Unifier.{Unifies}
use Rattle.fo_unify.specs.Shown.{shown}
use Rattle.fo_unify.proofs.Closing.{drop_read}
use Rattle.fo_unify.proofs.triangle.is_known.Goals as goal

pub returns-then-same-2 : goal.returns-then-same-2
returns-then-same-2 c = λ told v m.
    let here = (subst (λ es. Unifies v (shown es)) (drop_read c.args.known.now c.loop-e.e-index c.e-item.result c.loop-e-test.true c.e-item.is) (c.loop-e.invariant v m)).0 in
    sym (ap (put v) (c.if-same.ensures.0 refl)) ∙ here ∙ ap (put v) (c.if-same-2.ensures.0 refl)

pub loop-e-preserved : goal.loop-e-preserved
loop-e-preserved c = λ v m.
    (subst (λ es. Unifies v (shown es)) (drop_read c.args.known.now c.loop-e.e-index c.e-item.result c.loop-e-test.true c.e-item.is) (c.loop-e.invariant v m)).1
