-- A number built from its highest digit down.
use Rattle.std.specs.Prelude.{ℕ, ◌+◌, ◌-◌}
use Rattle.model_truth.specs.Numbers.{number}

-- of the number with the digits `f 0` to `f (count - 1)`: that of its `i` highest digits
unfoldable pub high_digits : ℕ → ℕ → ℕ → (ℕ → ℕ) → ℕ
high_digits base count i f = number base i (λ a. f (count - i + a))
