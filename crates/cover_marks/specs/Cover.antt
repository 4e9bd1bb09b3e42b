-- What marks tell of subsumption.
use Rattle.std.specs.Prelude.{◌≡◌, ℕ, ◌≤◌, List, length, All, Any, bit_or}

-- each mark of the one is among the other's
abbrev pub IsWithin : ℕ → ℕ → Type 0
IsWithin m n = bit_or m n ≡ n

-- the one has no more words than the other, and each of its words is within some word of the other
abbrev pub MayCover : List ℕ → List ℕ → Type 0
MayCover p q = (length p ≤ length q) × All (λ m. Any (IsWithin m) q) p
