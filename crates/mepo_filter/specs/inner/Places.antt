-- Facts by where their constants stand in one list.
use Rattle.std.specs.Prelude.{ℕ, ◌≤◌, Bool, List, slice_range, map}
use Rattle.mepo_filter.specs.declared.placing.Place.{Place}
use Rattle.mepo_filter.specs.declared.placing.Scored.{Scored}
use Rattle.mepo_filter.specs.Scores.{Candidate, score}

-- the place is one of a list of this length
abbrev pub IsWithin : ℕ → Place → Type 0
IsWithin n p = (p.start ≤ p.end) × (p.end ≤ n)

abbrev pub constants_at : List ℕ → Place → List ℕ
constants_at flat p = slice_range flat p.start p.end

abbrev pub candidate_at : List ℕ → Place → Candidate
candidate_at flat p = record { fact = p.fact; constants = constants_at flat p }

abbrev pub candidates_at : List ℕ → List Place → List Candidate
candidates_at flat places = map (candidate_at flat) places

-- the score of the fact at a place
abbrev pub scored_at : (ℕ → ℕ) → (ℕ → Bool) → List ℕ → Place → Scored
scored_at weigh relevant flat p = record { place = p; score = score weigh relevant (constants_at flat p) }
