-- What is chosen of a theory's facts for a goal.
use Rattle.std.specs.Prelude.{ℕ, Bool, List, [], length, map, take, slice_get}
use Rattle.std.specs.Option.{option_map_or}
use Rattle.theory_reader.specs.declared.theory.Theory.{Theory}
use Rattle.theory_reader.specs.declared.statement.Fact.{Fact}
use Rattle.theory_reader.specs.Seen.{seen}
use Rattle.mepo_filter.specs.declared.chosen.Chosen.{Chosen}
use Rattle.mepo_filter.specs.declared.slice.Slice.{Slice}
use Rattle.mepo_filter.specs.Constants.{names, constants, no_constant, with_all}
use Rattle.mepo_filter.specs.Scores.{Candidate, weight_among}
use Rattle.mepo_filter.specs.Rounds.{Round, rounds}

-- the fact with this number among those that the goal is proved from; a number of none has no constants
abbrev pub candidate : List Fact → ℕ → Candidate
candidate facts n = record { fact = n; constants = option_map_or (λ f. constants f.formula) (slice_get facts n) [] }

-- the visible facts, of which some are chosen
abbrev pub candidates : Theory → List ℕ → ℕ → List Candidate
candidates t visible goal = map (candidate (seen t goal)) visible

-- the constants of the goal's formula
abbrev pub goal_constants : Theory → ℕ → ℕ → Bool
goal_constants t goal = with_all no_constant (option_map_or (λ g. names g.formula) (slice_get t.goals goal) [])

abbrev pub first_round : Theory → List ℕ → ℕ → Slice → Round
first_round t visible goal s =
    record { number = 1; relevant = goal_constants t goal; mark = s.mark; left = candidates t visible goal }

-- all facts that are taken, ranked by round, then by score, then by place
abbrev pub ranking : Theory → List ℕ → ℕ → Slice → List Chosen
ranking t visible goal s =
    rounds (weight_among (candidates t visible goal)) s (length visible) (first_round t visible goal s)

-- the first of these, as many as the slice has room for
unfoldable pub mepo : Theory → List ℕ → ℕ → Slice → List Chosen
mepo t visible goal s = take s.facts (ranking t visible goal s)
