-- The first number that passes a test, or that fails it.
use Rattle.std.specs.Prelude.{◌≡◌, ◌≢◌, ℕ, ◌<◌, Bool, Option, Some, None}

-- the first number below `n` at which the test gives what is wanted, where there is one
abbrev pub IsFirst : (ℕ → Bool) → ℕ → Bool → Option ℕ → Type 0
IsFirst p n wanted None = (x : ℕ) → x < n → p x ≢ wanted
IsFirst p n wanted (Some v) = (v < n) × ((p v ≡ wanted) × ((x : ℕ) → x < v → p x ≢ wanted))
