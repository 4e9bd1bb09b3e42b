use Rattle.std.proofs.Common.{◌+◌, ◌*◌, drop}
use Rattle.fo_terms.specs.Weight.{size_of, size_of_all}
use Rattle.fo_order.specs.declared.comparing.Order.{Order}
use Rattle.fo_order.specs.KnuthBendix.{RankOfFirst}
use Rattle.fo_order.proofs.comparing.+ranking.Given as goal

-- what the rest of the lists decides, the whole ones decide
abbrev pub invariant-rank_first-loop-i : goal.invariant-rank_first-loop-i
invariant-rank_first-loop-i l = (r : Order) → RankOfFirst (drop l.i l.xs) (drop l.i l.ys) r → RankOfFirst l.xs l.ys r

abbrev pub decreases-rank : goal.decreases-rank
decreases-rank l = 2 * size_of l.s.now

abbrev pub decreases-rank_first : goal.decreases-rank_first
decreases-rank_first l = 2 * size_of_all l.xs.now + 1
