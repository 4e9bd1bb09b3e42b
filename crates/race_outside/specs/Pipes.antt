-- What the pipe from a child tells, and what a read gives of it.
use Rattle.std.specs.Prelude.{ℕ, ◌≡◌, ◌≤◌, ◌++◌, Bool, List, [], length, take, Option, Some, None}
use Rattle.race_outside.specs.declared.chunk.Chunk.{Chunk}
use Rattle.race_outside.specs.declared.chunk.Chunk.TheVariants.{Got, End, Failed}

-- what is told of a child: all bytes that it gives, where these are told, and whether its pipe never fails
pub record Told : Type 0 where
  pub whole : Option (List ℕ)
  pub sound : Bool

-- this piece was next, where the pipe tells
abbrev pub Moves : List ℕ → Option (List ℕ) → Option (List ℕ) → Type 0
Moves piece (Some before) (Some now) = before ≡ piece ++ now
Moves piece None None = Unit {0}
Moves piece _ _ = ⊥

-- nothing is left, where the pipe tells
abbrev pub IsEnded : Option (List ℕ) → Type 0
IsEnded (Some left) = left ≡ []
IsEnded None = Unit {0}

-- what a read leaves: it moved the next bytes to the front of `into`, or found none, or failed
abbrev pub Reads : Option (List ℕ) → Option (List ℕ) → List ℕ → Chunk → Type 0
Reads before now into (Got n) = (1 ≤ n) × (n ≤ length into) × Moves (take n into) before now
Reads before now into End = (now ≡ before) × IsEnded before
Reads before now into Failed = now ≡ before

-- a pipe that was just handed out for this child: nothing of it was read, and it never failed
pub record IsFresh (number faults : ℕ) (told : Told) (left : Option (List ℕ)) (id : ℕ) (child : Told) : Type 0 where
  pub number_is : number ≡ id
  pub told_is : told ≡ child
  pub left_is : left ≡ child.whole
  pub unfailed : faults ≡ 0
