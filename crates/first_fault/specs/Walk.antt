-- A walk over tokens that looks at each token once. No contract that users believe names it: proofs are by it.
use Rattle.std.specs.Prelude.{ℕ, List, [], ◌∷◌, Option, Some, None}
use Rattle.first_fault.specs.Levels.{Placed}

-- the levels of the tokens that the walk took, and how it ended: at the end of the text, or at a token that it doesn't take
pub data Run (V : Type 0) : Type 0 where
  Done : Option V → Run V
  Stuck : Run V
  Goes : ℕ → Run V → Run V

-- the walk takes these tokens at their levels, and then goes on so
abbrev pub goes : {T V : Type 0} → List (Placed T) → Run V → Run V
goes [] r = r
goes (p ∷ ps) r = Goes p.level (goes ps r)

-- the level of the token that was taken, and the next state
pub record Step (S : Type 0) : Type 0 where
  pub level : ℕ
  pub state : S

abbrev pub after : {S V : Type 0} → Option (Step S) → (S → Run V) → Run V
after None go = Stuck
after (Some s) go = Goes s.level (go s.state)

abbrev pub run : {T S V : Type 0} → (S → T → Option (Step S)) → (S → Option V) → S → List T → Run V
run step accepted s [] = Done (accepted s)
run step accepted s (x ∷ xs) = after (step s x) (λ t. run step accepted t xs)
