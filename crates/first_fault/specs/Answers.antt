-- What a text is and where its first fault is, by derivability alone.
-- `T` are the tokens, `V` what a text reads as, `D ps v`: the tokens `ps` are derivable at these levels and read as `v`.
use Rattle.std.specs.Prelude.{◌≡◌, ℕ, ◌<◌, List, [], ◌∷◌, ◌++◌, length}
use Rattle.first_fault.specs.declared.fault.Fault.{Fault}
use Rattle.first_fault.specs.declared.fault.Fault.TheVariants as fault
use Rattle.first_fault.specs.Levels.{Placed, put, Within}

-- the text reads as `v`: its tokens are derivable with every level within the limit
pub record Reads (T V : Type 0) (D : List (Placed T) → V → Type 0) (m : ℕ) (ts : List T) (v : V) : Type 0 where
  pub placed : List (Placed T)
  pub derived : D placed v
  pub within : Within m placed
  pub tokens : ts ≡ put placed []

-- some text goes on behind these tokens at these levels
abbrev pub Begins : (T V : Type 0) → (List (Placed T) → V → Type 0) → List (Placed T) → Type 0
Begins T V D p = (q : List (Placed T)) × (v : V) × D (p ++ q) v

-- no text goes on with the next token, whatever its levels; at the end, no text ends there
abbrev pub NoneGoesOn : (T V : Type 0) → (List (Placed T) → V → Type 0) → List (Placed T) → List T → Type 0
NoneGoesOn T V D p [] = (q : List (Placed T)) (v : V) → D q v → put q [] ≡ put p [] → ⊥
NoneGoesOn T V D p (x ∷ rest) = (q : List (Placed T)) (v : V) (others : List T) → D q v → put q [] ≡ put p (x ∷ others) → ⊥

-- a text goes on up to this place within the limit, and none goes on with the token there
pub record SyntaxAt (T V : Type 0) (D : List (Placed T) → V → Type 0) (m : ℕ) (ts : List T) (place : ℕ) : Type 0 where
  pub before : List (Placed T)
  pub rest : List T
  pub tokens : ts ≡ put before rest
  pub count : length before ≡ place
  pub begins : Begins T V D before
  pub within : Within m before
  pub stops : NoneGoesOn T V D before rest

-- a text goes on with the token at this place, whose level is the first above the limit
pub record TooDeepAt (T V : Type 0) (D : List (Placed T) → V → Type 0) (m : ℕ) (ts : List T) (place : ℕ) : Type 0 where
  pub before : List (Placed T)
  pub token : T
  pub level : ℕ
  pub rest : List T
  pub tokens : ts ≡ put before (token ∷ rest)
  pub count : length before ≡ place
  pub begins : Begins T V D (before ++ record { tok = token; level = level } ∷ [])
  pub within : Within m before
  pub above : m < level

pub data Answer (V : Type 0) : Type 0 where
  Text : V → Answer V
  Syntax : ℕ → Answer V
  TooDeep : ℕ → Answer V

abbrev pub IsAnswer : (T V : Type 0) → (List (Placed T) → V → Type 0) → ℕ → List T → Answer V → Type 0
IsAnswer T V D m ts (Text v) = Reads T V D m ts v
IsAnswer T V D m ts (Syntax place) = SyntaxAt T V D m ts place
IsAnswer T V D m ts (TooDeep place) = TooDeepAt T V D m ts place

-- the text has this fault, its place counted from the front; want of memory is free
abbrev pub Refused : (T V : Type 0) → (List (Placed T) → V → Type 0) → ℕ → List T → Fault → Type 0
Refused T V D m ts (fault.Syntax place) = SyntaxAt T V D m ts place
Refused T V D m ts (fault.TooDeep place) = TooDeepAt T V D m ts place
Refused T V D m ts fault.NoMemory = Unit {0}

-- the answer is this fault; want of memory is free
abbrev pub Tells : {V : Type 0} → Answer V → Fault → Type 0
Tells a (fault.Syntax place) = a ≡ Syntax place
Tells a (fault.TooDeep place) = a ≡ TooDeep place
Tells a fault.NoMemory = Unit {0}

-- each text has an answer
abbrev pub SomeAnswer : (T V : Type 0) → (List (Placed T) → V → Type 0) → Type 0
SomeAnswer T V D = (m : ℕ) (ts : List T) → (a : Answer V) × IsAnswer T V D m ts a

-- no text has two answers
abbrev pub OneAnswer : (T V : Type 0) → (List (Placed T) → V → Type 0) → Type 0
OneAnswer T V D = (m : ℕ) (ts : List T) (a b : Answer V) → IsAnswer T V D m ts a → IsAnswer T V D m ts b → a ≡ b
