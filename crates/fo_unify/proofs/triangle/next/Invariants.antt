use Rattle.fo_unify.specs.Unifier.{Unifies}
use Rattle.fo_unify.specs.Shown.{as_binds, shown}
use Rattle.fo_unify.specs.inner.Triangle.{left_size, solution}
use Rattle.fo_unify.specs.inner.Leads.{Under, Carries}
use Rattle.fo_unify.proofs.triangle.next.Given as goal

abbrev pub invariant-loop-e : goal.invariant-loop-e
invariant-loop-e l = record {
  same : Under (as_binds l.binds) (λ v. Unifies v (shown l.initial.work)) (λ v. Unifies v (shown l.work));
  carries : Carries (solution (as_binds l.binds)) (shown l.initial.work) (shown l.work);
}

abbrev pub decreases-loop-e : goal.decreases-loop-e
decreases-loop-e l = left_size (solution (as_binds l.binds)) (shown l.work)
