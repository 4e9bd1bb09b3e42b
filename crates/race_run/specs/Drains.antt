-- What is read of a pipe.
use Rattle.std.specs.Prelude.{ℕ, ◌≡◌, ◌≢◌, ◌+◌, ◌≤◌, List, [], ◌++◌, length, Option}
use Rattle.race_outside.specs.Pipes.{Moves}
use Rattle.race_board.specs.declared.drain_end.DrainEnd.{DrainEnd}
use Rattle.race_board.specs.declared.drain_end.DrainEnd.TheVariants as drain
use Rattle.race_board.specs.Drains.{most_bytes}

-- of all bytes, where they are told, these were read, and those are left; what was read is kept, but for the last ones where there was no memory
pub record HasRead (whole left : Option (List ℕ)) (bytes : List ℕ) (end : DrainEnd) : Type 0 where
  pub lost : List ℕ
  pub most : length bytes + length lost ≤ most_bytes
  pub moved : Moves (bytes ++ lost) whole left
  pub kept : end ≢ drain.NoMemory → lost ≡ []
