-- Tokens with their levels.
use Rattle.std.specs.Prelude.{ℕ, ◌≤◌, List, [], ◌∷◌}

-- a token with its level
pub record Placed (T : Type 0) : Type 0 where
  pub tok : T
  pub level : ℕ

-- these tokens without their levels, and then those
abbrev pub put : {T : Type 0} → List (Placed T) → List T → List T
put [] xs = xs
put (p ∷ ps) xs = p.tok ∷ put ps xs

-- every token's level is within the limit
abbrev pub Within : {T : Type 0} → ℕ → List (Placed T) → Type 0
Within m [] = Unit {0}
Within m (p ∷ ps) = (p.level ≤ m) × Within m ps
