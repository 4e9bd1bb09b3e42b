use Rattle.std.proofs.Common.{◌+◌, ◌*◌, drop, map, sum}
use Rattle.fo_terms.specs.Weight.{size_of}
use Rattle.fo_terms.specs.Substitution.{put}
use Rattle.fo_unify.specs.Lookup.{term_of}
use Rattle.fo_order.specs.declared.comparing.Order.{Order}
use Rattle.fo_order.specs.KnuthBendix.{RankOfFirst}
use Rattle.fo_infer.proofs.ranking.+ranking.Given as goal

-- what the rest of the lists decides, the whole ones decide
abbrev pub invariant-rank_first-loop-i : goal.invariant-rank_first-loop-i
invariant-rank_first-loop-i l = (r : Order)
    → RankOfFirst (drop l.i (map (put (term_of l.unifier)) l.xs)) (drop l.i (map (put (term_of l.unifier)) l.ys)) r
    → RankOfFirst (map (put (term_of l.unifier)) l.xs) (map (put (term_of l.unifier)) l.ys) r

abbrev pub decreases-rank : goal.decreases-rank
decreases-rank l = 2 * size_of (put (term_of l.unifier.now) l.s.now)

abbrev pub decreases-rank_first : goal.decreases-rank_first
decreases-rank_first l = 2 * sum (map size_of (map (put (term_of l.unifier.now)) l.xs.now)) + 1
