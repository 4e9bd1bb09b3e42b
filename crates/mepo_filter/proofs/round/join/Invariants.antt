use Rattle.std.proofs.Common.{◌≡◌, map, take}
use Rattle.mepo_filter.specs.Rounds.{joined}
use Rattle.mepo_filter.specs.inner.Tables.{is_in}
use Rattle.mepo_filter.specs.inner.Steps.{candidate_of}
use Rattle.mepo_filter.proofs.round.join.Given as goal

abbrev pub invariant-loop-scored : goal.invariant-loop-scored
invariant-loop-scored l =
    is_in l.relevant ≡ joined (is_in l.fn.relevant) (map (candidate_of l.flat) (take l.scored-index l.taken))
