use Rattle.std.proofs.Common.{◌≡◌, ◌+◌, ◌-◌, ◌++◌, take}
use Rattle.mepo_filter.specs.Rounds.{rounds}
use Rattle.mepo_filter.specs.inner.Tables.{weight_in}
use Rattle.mepo_filter.specs.inner.Steps.{IsReady, round_at}
use Rattle.mepo_filter.proofs.round.rounds.Given as goal

abbrev pub invariant-loop-done : goal.invariant-loop-done
invariant-loop-done g l = record {
  ready : IsReady l.flat l.state;
  rest : take l.slice.facts (l.state.chosen.items ++ rounds (weight_in l.weights) l.slice (l.count - l.done) (round_at l.flat (l.done + 1) l.state))
      ≡ take l.slice.facts (rounds (weight_in l.weights) l.slice l.count (round_at l.flat 1 l.fn.start));
}
