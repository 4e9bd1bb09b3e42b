use Rattle.std.proofs.Common.{◌≡◌, ◌+◌, ◌*◌, map, drop, sum}
use Rattle.fo_terms.specs.Weight.{size_of}
use Rattle.fo_terms.specs.Substitution.{put}
use Rattle.fo_unify.specs.Lookup.{term_of}
use Rattle.fo_order.specs.Counts.{covered_all}
use Rattle.fo_infer.proofs.counting.+covering.Given as goal

abbrev pub decreases-covered_by : goal.decreases-covered_by
decreases-covered_by l = 2 * size_of (put (term_of l.unifier.now) l.u.now)

abbrev pub decreases-covered_by_all : goal.decreases-covered_by_all
decreases-covered_by_all l = 2 * sum (map size_of (map (put (term_of l.unifier.now)) l.us.now)) + 1

abbrev pub invariant-covered_by_all-loop-u : goal.invariant-covered_by_all-loop-u
invariant-covered_by_all-loop-u l =
    covered_all (put (term_of l.unifier) l.s) (put (term_of l.unifier) l.t) (map (put (term_of l.unifier)) (drop l.u-index l.us))
    ≡ covered_all (put (term_of l.unifier) l.s) (put (term_of l.unifier) l.t) (map (put (term_of l.unifier)) l.us)
