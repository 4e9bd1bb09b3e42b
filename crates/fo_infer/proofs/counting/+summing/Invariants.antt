use Rattle.std.proofs.Common.{◌≡◌, ◌+◌, ◌*◌, map, take, sum}
use Rattle.fo_terms.specs.Weight.{size_of, capped}
use Rattle.fo_terms.specs.Substitution.{put}
use Rattle.fo_unify.specs.Lookup.{term_of}
use Rattle.fo_infer.proofs.counting.+summing.Given as goal

abbrev pub decreases-weight : goal.decreases-weight
decreases-weight l = 2 * size_of (put (term_of l.unifier.now) l.t.now)

abbrev pub decreases-weight_all : goal.decreases-weight_all
decreases-weight_all l = 2 * sum (map size_of (map (put (term_of l.unifier.now)) l.terms.now)) + 1

abbrev pub invariant-weight_all-loop-t : goal.invariant-weight_all-loop-t
invariant-weight_all-loop-t l = l.total ≡ capped (sum (map size_of (map (put (term_of l.unifier)) (take l.t-index l.terms))))
