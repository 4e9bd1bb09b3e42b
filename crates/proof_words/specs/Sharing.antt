-- How far a word goes on as one of some words.
use Rattle.std.specs.Prelude.{◌≡◌, ◌⊎◌, ℕ, ◌+◌, ◌^◌, ◌<◌, ◌≤◌, List, [], ◌∷◌, length, take, decimal}
use Rattle.proof_words.specs.declared.number.Number.{Number}
use Rattle.proof_words.specs.declared.number.Number.TheVariants as number

-- the first `n` bytes of the word, and no more, are those of one of the words that are meant
pub record Shares (Meant : List ℕ → Type 0) (w : List ℕ) (n : ℕ) : Type 0 where
  pub room : n ≤ length w
  pub some : (n ≡ 0) ⊎ ((v : List ℕ) × Meant v × (take n v ≡ take n w))
  pub most : (v : List ℕ) → Meant v → take (n + 1) v ≡ take (n + 1) w → ⊥

-- the digits of a number below 2^64, without a leading zero
abbrev pub IsNumber : List ℕ → Type 0
IsNumber v = (n : ℕ) × (n < 2 ^ 64) × (v ≡ decimal n)

-- the number that the word writes, or how far it goes on as one
abbrev pub IsRead : List ℕ → Number → Type 0
IsRead w (number.Is n) = (n < 2 ^ 64) × (w ≡ decimal n)
IsRead w (number.Begins n) = Shares IsNumber w n

abbrev pub IsOneOf : List (List ℕ) → List ℕ → Type 0
IsOneOf [] v = ⊥
IsOneOf (w ∷ words) v = (v ≡ w) ⊎ IsOneOf words v
