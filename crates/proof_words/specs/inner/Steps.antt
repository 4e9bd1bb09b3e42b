-- How far two words are the same, and how far a number goes on.
use Rattle.std.specs.Prelude.{ℕ, ◌+◌, ◌*◌, ◌-◌, ◌^◌, ◌<◌, ◌≤◌, max, nat_eq, List, [], ◌∷◌}
use Rattle.std.specs.List.{common_prefix_len}

-- the most bytes that the word shares with one of these
abbrev pub most_shared : List ℕ → List (List ℕ) → ℕ
most_shared w [] = 0
most_shared w (v ∷ words) = max (common_prefix_len nat_eq w v) (most_shared w words)

abbrev pub IsDigit : ℕ → Type 0
IsDigit b = (48 ≤ b) × (b < 58)

-- the byte is no digit, or the number with it reaches 2^64
abbrev pub GoesNoFurther : ℕ → ℕ → Type 0
GoesNoFurther n b = 48 ≤ b → b < 58 → 2 ^ 64 ≤ 10 * n + (b - 48)
