use Rattle.std.proofs.Common.{◌≡◌, ◌+◌, ◌*◌, take, map, sum}
use Rattle.fo_terms.specs.Weight.{size_of}
use Rattle.fo_terms.specs.Substitution.{put}
use Rattle.fo_unify.specs.Unifier.{Unifies}
use Rattle.fo_unify.specs.inner.Triangle.{solution}
use Rattle.fo_unify.specs.Shown.{as_binds, shown}
use Rattle.fo_unify.proofs.triangle.+agreeing.Given as goal

abbrev pub decreases-agree : goal.decreases-agree
decreases-agree l = 2 * size_of (put (solution (as_binds l.binds.now)) l.s.now)

abbrev pub decreases-agree_all : goal.decreases-agree_all
decreases-agree_all l = 2 * sum (map size_of (map (put (solution (as_binds l.binds.now))) l.ss.now)) + 1

abbrev pub invariant-agree_all-loop-i : goal.invariant-agree_all-loop-i
invariant-agree_all-loop-i l = record {
  same : map (put (solution (as_binds l.binds))) (take l.i l.ss) ≡ map (put (solution (as_binds l.binds))) (take l.i l.ts);
  known : Unifies (solution (as_binds l.binds)) (shown l.known);
}
