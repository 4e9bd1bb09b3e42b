-- The marks of several words together.
use Rattle.std.specs.Prelude.{ℕ, List, All}
use Rattle.cover_marks.specs.Cover.{IsWithin}

-- the least word that each of these is within
pub record IsUnion (words : List ℕ) (all : ℕ) : Type 0 where
  pub over : All (λ m. IsWithin m all) words
  pub least : (n : ℕ) → All (λ m. IsWithin m n) words → IsWithin all n
