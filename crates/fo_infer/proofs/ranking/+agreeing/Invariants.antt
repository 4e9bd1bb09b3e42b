use Rattle.std.proofs.Common.{◌≡◌, ◌+◌, ◌*◌, map, take, sum}
use Rattle.fo_terms.specs.Weight.{size_of}
use Rattle.fo_terms.specs.Substitution.{put}
use Rattle.fo_unify.specs.Lookup.{term_of}
use Rattle.fo_infer.proofs.ranking.+agreeing.Given as goal

abbrev pub decreases-same : goal.decreases-same
decreases-same l = 2 * size_of (put (term_of l.unifier.now) l.s.now)

abbrev pub decreases-all_same : goal.decreases-all_same
decreases-all_same l = 2 * sum (map size_of (map (put (term_of l.unifier.now)) l.ss.now)) + 1

abbrev pub invariant-all_same-loop-i : goal.invariant-all_same-loop-i
invariant-all_same-loop-i l = map (put (term_of l.unifier)) (take l.i l.ss) ≡ map (put (term_of l.unifier)) (take l.i l.ts)
