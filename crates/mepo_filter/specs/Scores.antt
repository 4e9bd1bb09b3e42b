-- How relevant a fact is, by its constants (Meng and Paulson): relevant ones against all, where rarer ones weigh more.
use Rattle.std.specs.Prelude.{ℕ, ◌+◌, ◌-◌, ◌*◌, ◌/◌, ◌^◌, Bool, not, nat_le, List, [], ◌∷◌, length, filter, sum_by, count_by}
use Rattle.std.specs.Int.{w32, leading_zeros}
use Rattle.mepo_filter.specs.declared.score.Score.{Score}
use Rattle.mepo_filter.specs.Constants.{occurs_in}

-- a fact that may be chosen: its number and its distinct constants
pub record Candidate : Type 0 where
  pub fact : ℕ
  pub constants : List ℕ

-- the number of facts in which a constant occurs
abbrev pub frequency : List Candidate → ℕ → ℕ
frequency facts c = count_by (λ f. occurs_in f.constants c) facts

-- the number of binary digits of a number of 32 bits
abbrev pub bits : ℕ → ℕ
bits n = 32 - leading_zeros w32 n

-- what a constant of this frequency weighs: the number of digits stands for a logarithm
abbrev pub weight : ℕ → ℕ
weight frequency = 64 / (1 + bits frequency)

-- what each constant weighs among these facts
abbrev pub weight_among : List Candidate → ℕ → ℕ
weight_among facts c = weight (frequency facts c)

-- the weights of the relevant constants
abbrev pub relevant_weight : (ℕ → ℕ) → (ℕ → Bool) → List ℕ → ℕ
relevant_weight weigh relevant cs = sum_by weigh (filter relevant cs)

-- each constant that isn't relevant counts 16
abbrev pub irrelevant_weight : (ℕ → Bool) → List ℕ → ℕ
irrelevant_weight relevant cs = 16 * length (filter (λ c. not (relevant c)) cs)

-- the part that the relevant ones have of all; a fact without constants has the whole
abbrev pub score : (ℕ → ℕ) → (ℕ → Bool) → List ℕ → Score
score weigh relevant [] = record { top = 1; bottom = 1 }
score weigh relevant (c ∷ cs) = record {
  top = relevant_weight weigh relevant (c ∷ cs);
  bottom = relevant_weight weigh relevant (c ∷ cs) + irrelevant_weight relevant (c ∷ cs);
}

-- the score is at least the mark, which is so many of 2 ^ 20 parts
abbrev pub reaches : ℕ → Score → Bool
reaches mark s = nat_le (mark * s.bottom) (s.top * 2 ^ 20)
