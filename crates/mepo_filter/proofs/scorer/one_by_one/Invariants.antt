use Rattle.std.proofs.Common.{◌≡◌, map, take}
use Rattle.mepo_filter.specs.inner.Tables.{is_in, weight_in}
use Rattle.mepo_filter.specs.inner.Places.{scored_at}
use Rattle.mepo_filter.proofs.scorer.one_by_one.Given as goal

abbrev pub invariant-loop-place : goal.invariant-loop-place
invariant-loop-place l =
    l.all.items ≡ map (scored_at (weight_in l.weights) (is_in l.relevant) l.flat) (take l.place-index l.left)
