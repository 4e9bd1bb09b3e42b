-- The rounds: facts that reach the mark are taken, their constants join the relevant ones, and the mark rises.
use Rattle.std.specs.Prelude.{ℕ, zero, suc, ◌+◌, ◌-◌, ◌*◌, ◌/◌, ◌^◌, Bool, not, ◌||◌, List, [], ◌∷◌, ◌++◌, filter, map}
use Rattle.std.specs.List.{list_any}
use Rattle.mepo_filter.specs.declared.chosen.Chosen.{Chosen}
use Rattle.mepo_filter.specs.declared.score.Score.{Score}
use Rattle.mepo_filter.specs.declared.slice.Slice.{Slice}
use Rattle.mepo_filter.specs.Constants.{occurs_in}
use Rattle.mepo_filter.specs.Scores.{Candidate, score, reaches}
use Rattle.mepo_filter.specs.Ranking.{ranked}

-- what a round begins with: its number, the relevant constants, the mark, and the facts that aren't taken yet
pub record Round : Type 0 where
  pub number : ℕ
  pub relevant : ℕ → Bool
  pub mark : ℕ
  pub left : List Candidate

abbrev pub is_taken : (ℕ → ℕ) → Round → Candidate → Bool
is_taken weigh r f = reaches r.mark (score weigh r.relevant f.constants)

-- the facts that the round takes, in order of place
abbrev pub taken : (ℕ → ℕ) → Round → List Candidate
taken weigh r = filter (is_taken weigh r) r.left

-- the relevant constants, and those of these facts
abbrev pub joined : (ℕ → Bool) → List Candidate → ℕ → Bool
joined relevant facts c = relevant c || list_any (λ f. occurs_in f.constants c) facts

-- the mark, and the slice's part of what it lacks of one
abbrev pub risen : Slice → ℕ → ℕ
risen s mark = mark + (2 ^ 20 - mark) * s.rise / s.of

abbrev pub next : (ℕ → ℕ) → Slice → Round → Round
next weigh s r = record {
  number = r.number + 1;
  relevant = joined r.relevant (taken weigh r);
  mark = risen s r.mark;
  left = filter (λ f. not (is_taken weigh r f)) r.left;
}

-- a fact that a round takes, with that round's score
abbrev pub chosen_as : ℕ → Candidate → Score → Chosen
chosen_as round f s = record { fact = f.fact; round = round; top = s.top; bottom = s.bottom }

abbrev pub chosen_in : (ℕ → ℕ) → Round → Candidate → Chosen
chosen_in weigh r f = chosen_as r.number f (score weigh r.relevant f.constants)

-- what is ranked, unless the round takes none
abbrev pub unless_none : List Candidate → List Chosen → List Chosen
unless_none [] fs = []
unless_none (t ∷ ts) fs = fs

-- the facts of at most this many rounds: a round that takes none is the last, so there are no more rounds than facts
abbrev pub rounds : (ℕ → ℕ) → Slice → ℕ → Round → List Chosen
rounds weigh s zero r = []
rounds weigh s (suc n) r =
    unless_none (taken weigh r) (ranked (map (chosen_in weigh r) (taken weigh r)) ++ rounds weigh s n (next weigh s r))
