use Rattle.std.proofs.Common.{◌≡◌, ◌+◌, ◌*◌, map, take, sum}
use Rattle.fo_terms.specs.Weight.{size_of, capped}
use Rattle.fo_terms.specs.Substitution.{put}
use Rattle.fo_unify.specs.Lookup.{term_of}
use Rattle.fo_order.specs.Counts.{count_of_all}
use Rattle.fo_infer.proofs.counting.+counting.Given as goal

abbrev pub decreases-count : goal.decreases-count
decreases-count l = 2 * size_of (put (term_of l.unifier.now) l.t.now)

abbrev pub decreases-count_all : goal.decreases-count_all
decreases-count_all l = 2 * sum (map size_of (map (put (term_of l.unifier.now)) l.terms.now)) + 1

abbrev pub invariant-count_all-loop-t : goal.invariant-count_all-loop-t
invariant-count_all-loop-t l = l.total ≡ capped (count_of_all l.x (map (put (term_of l.unifier)) (take l.t-index l.terms)))
