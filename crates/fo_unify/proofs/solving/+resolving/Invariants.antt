use Rattle.std.proofs.Common.{◌≡◌, ◌+◌, ◌*◌, take, map, sum}
use Rattle.fo_terms.specs.Weight.{size_of}
use Rattle.fo_terms.specs.Substitution.{put}
use Rattle.fo_unify.specs.inner.Triangle.{solution}
use Rattle.fo_unify.specs.Shown.{as_binds}
use Rattle.fo_unify.proofs.solving.+resolving.Given as goal

abbrev pub decreases-resolve : goal.decreases-resolve
decreases-resolve l = 2 * size_of (put (solution (as_binds l.binds.now)) l.t.now)

abbrev pub decreases-resolve_all : goal.decreases-resolve_all
decreases-resolve_all l = 2 * sum (map size_of (map (put (solution (as_binds l.binds.now))) l.ts.now)) + 1

abbrev pub invariant-resolve_all-loop-t : goal.invariant-resolve_all-loop-t
invariant-resolve_all-loop-t l = l.out ≡ map (put (solution (as_binds l.binds))) (take l.t-index l.ts)
