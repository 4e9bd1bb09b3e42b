-- With a mark that doesn't rise the facts taken are a least set.
use Rattle.std.specs.Prelude.{◌≡◌, ℕ, ◌≤◌, ◌^◌, Bool, IsTrue, List, map, filter, Contains}
use Rattle.theory_reader.specs.declared.theory.Theory.{Theory}
use Rattle.mepo_filter.specs.declared.slice.Slice.{Slice}
use Rattle.mepo_filter.specs.Constants.{occurs_in}
use Rattle.mepo_filter.specs.Scores.{Candidate, score, reaches, weight_among}
use Rattle.mepo_filter.specs.Rounds.{joined}
use Rattle.mepo_filter.specs.Mepo.{candidates, goal_constants, ranking}

-- the facts whose numbers are in the set
abbrev pub members : List Candidate → (ℕ → Bool) → List Candidate
members facts set = filter (λ f. set f.fact) facts

-- the set holds every fact whose score against the constants of goal and set reaches the mark
abbrev pub Holds : (ℕ → ℕ) → (ℕ → Bool) → ℕ → List Candidate → (ℕ → Bool) → Type 0
Holds weigh goal mark facts set =
    (f : Candidate) → Contains facts f → IsTrue (reaches mark (score weigh (joined goal (members facts set)) f.constants)) → IsTrue (set f.fact)

-- the numbers of the facts taken, before the cut
abbrev pub taken_set : Theory → List ℕ → ℕ → Slice → ℕ → Bool
taken_set t visible goal s = occurs_in (map (λ c. c.fact) (ranking t visible goal s))

-- it holds them, and is within every set that does
pub record IsLeast (t : Theory) (visible : List ℕ) (goal : ℕ) (s : Slice) : Type 0 where
  pub holds : Holds (weight_among (candidates t visible goal)) (goal_constants t goal) s.mark (candidates t visible goal) (taken_set t visible goal s)
  pub least : (set : ℕ → Bool) → Holds (weight_among (candidates t visible goal)) (goal_constants t goal) s.mark (candidates t visible goal) set →
      (n : ℕ) → IsTrue (taken_set t visible goal s n) → IsTrue (set n)

-- for a slice with rise 0, whose mark is at most one
abbrev pub TakenIsLeast : Type 0
TakenIsLeast = (t : Theory) (visible : List ℕ) (goal : ℕ) (s : Slice) → s.rise ≡ 0 → s.mark ≤ 2 ^ 20 → IsLeast t visible goal s
