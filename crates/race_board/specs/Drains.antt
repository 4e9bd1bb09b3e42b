-- What was read of a pipe.
use Rattle.std.specs.Prelude.{ℕ, ◌≡◌, ◌<◌, ◌≤◌, ◌↔◌, List, length, take, Option, Some, None}
use Rattle.race_outside.specs.Pipes.{Told, IsEnded}
use Rattle.race_board.specs.declared.drain_end.DrainEnd.{DrainEnd}
use Rattle.race_board.specs.declared.drain_end.DrainEnd.TheVariants as drain

-- so many bytes are read of a pipe at most
abbrev pub most_bytes : ℕ
most_bytes = 4194305

-- where it is told what the child gives, the bytes are a beginning of that
abbrev pub AreBegun : Option (List ℕ) → List ℕ → Type 0
AreBegun None bytes = Unit {0}
AreBegun (Some whole) bytes = bytes ≡ take (length bytes) whole

-- where it is told, the bytes are so many of the first, or all where there are fewer
abbrev pub AreFirst : ℕ → Option (List ℕ) → List ℕ → Type 0
AreFirst most None bytes = Unit {0}
AreFirst most (Some whole) bytes = bytes ≡ take most whole

-- where it is told, the bytes are all
abbrev pub AreAll : Option (List ℕ) → List ℕ → Type 0
AreAll None bytes = Unit {0}
AreAll (Some whole) bytes = bytes ≡ whole

-- a pipe that was read, the bytes that came, the count of its faults, and why the reading ended
pub record Reading (P : Type 0) : Type 0 where
  pub pipe : P
  pub bytes : List ℕ
  pub pipe_faults : ℕ
  pub end : DrainEnd

-- what a reading says of its pipe
pub record IsDrained (told : Told) (left : Option (List ℕ)) (faults : ℕ) (bytes : List ℕ) (pipe_faults : ℕ) (end : DrainEnd) : Type 0 where
  pub counted : pipe_faults ≡ faults
  pub most : length bytes ≤ most_bytes
  pub begun : AreBegun told.whole bytes
  pub long : (end ≡ drain.Long) ↔ (length bytes ≡ most_bytes)
  pub ended : end ≡ drain.Ended → IsEnded left × AreAll told.whole bytes
  pub failed : end ≡ drain.Failed → 0 < pipe_faults
