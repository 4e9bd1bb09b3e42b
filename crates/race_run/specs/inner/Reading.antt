-- What one read of a pipe adds, and what was read up to an end.
use Rattle.std.specs.Prelude.{ℕ, ◌≡◌, ◌+◌, ◌<◌, ◌≤◌, List, ◌++◌, length, Option, Some, None}
use Rattle.race_outside.specs.Pipes.{Moves, IsEnded}
use Rattle.race_board.specs.declared.drain_end.DrainEnd.{DrainEnd}
use Rattle.race_board.specs.declared.drain_end.DrainEnd.TheVariants as drain
use Rattle.race_board.specs.Drains.{most_bytes}

-- a read into a place of this length gave these bytes more, or an end
abbrev pub Adds : ℕ → (left rest : Option (List ℕ)) → (before now : List ℕ) → Option DrainEnd → Type 0
Adds room left rest before now None = (piece : List ℕ) × (0 < length piece) × (length piece ≤ room) × (now ≡ before ++ piece) × Moves piece left rest
Adds room left rest before now (Some drain.Ended) = (now ≡ before) × (rest ≡ left) × IsEnded left
Adds room left rest before now (Some drain.Failed) = (now ≡ before) × (rest ≡ left)
Adds room left rest before now (Some drain.Long) = ⊥
Adds room left rest before now (Some drain.NoMemory) = (now ≡ before) × (lost : List ℕ) × (length lost ≤ room) × Moves lost left rest

-- all that was read of a pipe up to its end
abbrev pub Moved : (whole left : Option (List ℕ)) → List ℕ → DrainEnd → Type 0
Moved whole left bytes drain.Ended = (length bytes < most_bytes) × Moves bytes whole left × IsEnded left
Moved whole left bytes drain.Failed = (length bytes < most_bytes) × Moves bytes whole left
Moved whole left bytes drain.Long = (length bytes ≡ most_bytes) × Moves bytes whole left
Moved whole left bytes drain.NoMemory = (length bytes < most_bytes) × (lost : List ℕ) × (length bytes + length lost ≤ most_bytes) × Moves (bytes ++ lost) whole left
