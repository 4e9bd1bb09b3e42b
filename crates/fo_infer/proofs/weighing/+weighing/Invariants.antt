use Rattle.std.proofs.Common.{◌≡◌, ◌+◌, ◌*◌, map, take, sum}
use Rattle.fo_terms.specs.Weight.{size_of}
use Rattle.fo_terms.specs.Substitution.{put}
use Rattle.fo_unify.specs.Lookup.{term_of}
use Rattle.fo_infer.proofs.weighing.+weighing.Given as goal

abbrev pub decreases-left_of : goal.decreases-left_of
decreases-left_of l = 2 * size_of (put (term_of l.unifier.now) l.t.now)

abbrev pub decreases-left_of_all : goal.decreases-left_of_all
decreases-left_of_all l = 2 * sum (map size_of (map (put (term_of l.unifier.now)) l.terms.now)) + 1

abbrev pub invariant-left_of_all-loop-t : goal.invariant-left_of_all-loop-t
invariant-left_of_all-loop-t l = l.rest + sum (map size_of (map (put (term_of l.unifier)) (take l.t-index l.terms))) ≡ l.allowance
