-- How one round leads to the next.
use Rattle.std.specs.Prelude.{◌≡◌, ℕ, ◌+◌, ◌<◌, ◌≤◌, ◌^◌, List, [], ◌++◌, All, length, map}
use Rattle.mepo_filter.specs.declared.chosen.Chosen.{Chosen}
use Rattle.mepo_filter.specs.declared.placing.Scored.{Scored}
use Rattle.mepo_filter.specs.declared.round.State.{State}
use Rattle.mepo_filter.specs.declared.slice.Slice.{Slice}
use Rattle.mepo_filter.specs.Ranking.{ranked}
use Rattle.mepo_filter.specs.Rounds.{Round, taken, chosen_in, next, unless_none}
use Rattle.mepo_filter.specs.Scores.{Candidate}
use Rattle.mepo_filter.specs.inner.Tables.{is_in}
use Rattle.mepo_filter.specs.inner.Places.{IsWithin, candidate_at, candidates_at}

-- the mark is at most one, and so is the part by which it rises
pub record IsModest (s : Slice) : Type 0 where
  pub mark : s.mark ≤ 2 ^ 20
  pub rise : s.rise ≤ s.of
  pub some : 0 < s.of
  pub few : s.of ≤ 8

-- the round of this number that begins with a state
abbrev pub round_at : List ℕ → ℕ → State → Round
round_at flat number s =
    record { number = number; relevant = is_in s.relevant; mark = s.mark; left = candidates_at flat s.left.items }

-- what the type of states doesn't say
pub record IsReady (flat : List ℕ) (s : State) : Type 0 where
  pub within : All (IsWithin (length flat)) s.left.items
  pub mark : s.mark ≤ 2 ^ 20

-- a fact with its score as it is chosen
abbrev pub chosen_of : ℕ → Scored → Chosen
chosen_of number s = record { fact = s.place.fact; round = number; top = s.score.top; bottom = s.score.bottom }

abbrev pub candidate_of : List ℕ → Scored → Candidate
candidate_of flat s = candidate_at flat s.place

-- the round took some facts, and the next one begins
pub record Goes (weigh : ℕ → ℕ) (s : Slice) (flat : List ℕ) (number : ℕ) (old new : State) : Type 0 where
  pub some : (fs : List Chosen) → unless_none (taken weigh (round_at flat number old)) fs ≡ fs
  pub chosen : new.chosen.items ≡ old.chosen.items ++ ranked (map (chosen_in weigh (round_at flat number old)) (taken weigh (round_at flat number old)))
  pub next : round_at flat (number + 1) new ≡ next weigh s (round_at flat number old)
  pub ready : IsReady flat new

-- the round took none
pub record Stops (weigh : ℕ → ℕ) (flat : List ℕ) (number : ℕ) (old new : State) : Type 0 where
  pub none : taken weigh (round_at flat number old) ≡ []
  pub chosen : new.chosen.items ≡ old.chosen.items
