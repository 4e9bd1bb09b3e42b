-- Where the body of a text begins.
use Rattle.std.specs.Prelude.{◌≡◌, ℕ, List, ◌∷◌, ◌++◌}
use Rattle.proof_syntax.specs.Reading.{StartsBehind}

-- the body stands behind the first line of the proof
abbrev pub IsBody : List ℕ → List ℕ → Type 0
IsBody text body = (before : List ℕ) × StartsBehind text before body

-- the text has no line's end
abbrev pub NoLineEnd : List ℕ → Type 0
NoLineEnd text = (front rest : List ℕ) → text ≡ front ++ 10 ∷ rest → ⊥

-- a line, its end, and what stands behind
pub record IsBehindLine (text rest : List ℕ) : Type 0 where
  pub line : List ℕ
  pub is : text ≡ line ++ 10 ∷ rest
  pub unbroken : NoLineEnd line
