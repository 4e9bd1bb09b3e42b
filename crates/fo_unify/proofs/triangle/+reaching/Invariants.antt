use Rattle.std.proofs.Common.{◌≡◌, ◌+◌, ◌*◌, drop, map, sum}
use Rattle.std.specs.Prelude.{All}
use Rattle.fo_terms.specs.Weight.{size_of}
use Rattle.fo_terms.specs.Substitution.{put, occurs_in_any}
use Rattle.fo_unify.specs.inner.Triangle.{solution, Lacks}
use Rattle.fo_unify.specs.Shown.{as_binds}
use Rattle.fo_unify.proofs.triangle.+reaching.Given as goal

abbrev pub decreases-reaches : goal.decreases-reaches
decreases-reaches l = 2 * size_of (put (solution (as_binds l.binds.now)) l.t.now)

abbrev pub decreases-reaches_any : goal.decreases-reaches_any
decreases-reaches_any l = 2 * sum (map size_of (map (put (solution (as_binds l.binds.now))) l.ts.now)) + 1

abbrev pub invariant-reaches_any-loop-t : goal.invariant-reaches_any-loop-t
invariant-reaches_any-loop-t l = record {
  rest : occurs_in_any l.x (map (put (solution (as_binds l.binds))) (drop l.t-index l.ts)) ≡ occurs_in_any l.x (map (put (solution (as_binds l.binds))) l.ts);
  seen : All (Lacks (as_binds l.binds) l.x) l.seen;
}
