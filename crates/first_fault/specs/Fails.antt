-- What the reader of a part promises about a fault, to the readers around it: places are counted from the end.
use Rattle.std.specs.Prelude.{◌≡◌, ℕ, ◌+◌, ◌-◌, ◌≤◌, ◌<◌, List, [], ◌∷◌, ◌++◌, length, None}
use Rattle.first_fault.specs.declared.fault.Fault.{Fault}
use Rattle.first_fault.specs.declared.fault.Fault.TheVariants as fault
use Rattle.first_fault.specs.Levels.{Placed, put, Within}
use Rattle.first_fault.specs.Walk.{goes, Run, Done, Stuck}

-- how a walk that stops before these tokens ends
abbrev pub end_of : {T V : Type 0} → List T → Run V
end_of [] = Done None
end_of (x ∷ xs) = Stuck

-- the part begins as `before`, and no walk in which it is wanted takes the next token
-- `B` says what begins the part, `walk i` are the walks in which the part is wanted
pub record Stops (T V : Type 0) (m : ℕ) (B : List (Placed T) → Type 0) (I : Type 0) (walk : I → List T → Run V) (ts : List T) (left : ℕ) : Type 0 where
  pub before : List (Placed T)
  pub rest : List T
  pub tokens : ts ≡ put before rest
  pub count : length rest ≡ left
  pub within : Within m before
  pub begins : B before
  pub stuck : (i : I) → walk i ts ≡ goes before (end_of rest)

-- the part begins as `before` and the next token, whose level is the first above the limit
pub record Deepens (T : Type 0) (m : ℕ) (B : List (Placed T) → Type 0) (ts : List T) (left : ℕ) : Type 0 where
  pub before : List (Placed T)
  pub token : T
  pub level : ℕ
  pub rest : List T
  pub tokens : ts ≡ put before (token ∷ rest)
  pub count : length rest + 1 ≡ left
  pub within : Within m before
  pub begins : B (before ++ record { tok = token; level = level } ∷ [])
  pub above : m < level

abbrev pub Fails : (T V : Type 0) → ℕ → (List (Placed T) → Type 0) → (I : Type 0) → (I → List T → Run V) → List T → Fault → Type 0
Fails T V m B I walk ts (fault.Syntax left) = Stops T V m B I walk ts left
Fails T V m B I walk ts (fault.TooDeep left) = Deepens T m B ts left
Fails T V m B I walk ts fault.NoMemory = Unit {0}

-- no more tokens are left than there are
abbrev pub IsWithin : ℕ → Fault → Type 0
IsWithin n (fault.Syntax left) = left ≤ n
IsWithin n (fault.TooDeep left) = left ≤ n
IsWithin n fault.NoMemory = Unit {0}

-- the fault with its place counted from the front of `n` tokens
abbrev pub counted : ℕ → Fault → Fault
counted n (fault.Syntax left) = fault.Syntax (n - left)
counted n (fault.TooDeep left) = fault.TooDeep (n - left)
counted n fault.NoMemory = fault.NoMemory
