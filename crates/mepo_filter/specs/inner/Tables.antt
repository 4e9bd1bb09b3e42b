-- What the tables by constant show: a set, a count, a weight.
use Rattle.std.specs.Prelude.{ℕ, ◌+◌, ◌==◌, Bool, if◌then◌else◌, slice_index, slice_index_or}
use Rattle.mepo_filter.specs.declared.constant_set.ConstantSet.{ConstantSet}
use Rattle.mepo_filter.specs.declared.counts.Counts.{Counts}
use Rattle.mepo_filter.specs.declared.weights.Weights.{Weights}
use Rattle.mepo_filter.specs.Scores.{weight}

-- a constant is in the set where it has the set's stamp
abbrev pub is_in : ConstantSet → ℕ → Bool
is_in s c = slice_index s.stamps.items c == s.stamp

-- a constant beyond the table was never met
abbrev pub count_in : Counts → ℕ → ℕ
count_in s c = slice_index s.counts.items c

-- and weighs as such
abbrev pub weight_in : Weights → ℕ → ℕ
weight_in s c = slice_index_or s.weights.items c (weight 0)

abbrev pub not_met : ℕ → ℕ
not_met c = 0

-- the constant met once more
abbrev pub met_again : (ℕ → ℕ) → ℕ → ℕ → ℕ
met_again count c d = count d + (if c == d then 1 else 0)

-- each constant of the set met once more
abbrev pub all_met : (ℕ → ℕ) → (ℕ → Bool) → ℕ → ℕ
all_met count set d = count d + (if set d then 1 else 0)
