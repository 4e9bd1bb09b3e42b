-- What was read of the input.
use Rattle.std.specs.Prelude.{◌≡◌, ◌<◌, ◌≤◌, ◌++◌, ℕ, List, length, Option, Some, None}
use Rattle.race_outside.specs.Causes.{Rose}
use Rattle.race_outside.specs.Pipes.{Moves, IsEnded}
use Rattle.fol_prover.specs.declared.input.Ending.{Ending}
use Rattle.fol_prover.specs.declared.input.Ending.TheVariants as ending
use Rattle.fol_prover.specs.declared.input.Input.{Input}
use Rattle.fol_prover.specs.declared.input.Input.TheVariants as input
use Rattle.fol_prover.specs.Replies.{Heard, WereLeft, IsLong, most_bytes}

abbrev pub heard : Option (List ℕ) → ℕ → ℕ → Heard
heard left before after = record { left = left; before = before; after = after }

-- what one read adds to the bytes
abbrev pub Adds : Option (List ℕ) → Option (List ℕ) → List ℕ → List ℕ → Option Ending → Type 0
Adds before now old new None = (piece : List ℕ) × (new ≡ old ++ piece) × (0 < length piece) × Moves piece before now
Adds before now old new (Some ending.Ended) = (new ≡ old) × IsEnded before
Adds before now old new (Some ending.Failed) = Unit {0}
Adds before now old new (Some ending.Long) = ⊥

-- why the reading ended with these bytes
abbrev pub HasEnded : Heard → List ℕ → Ending → Type 0
HasEnded i bytes ending.Ended = WereLeft i.left bytes × (length bytes ≤ most_bytes)
HasEnded i bytes ending.Failed = Rose i.before i.after
HasEnded i bytes ending.Long = IsLong i.left

-- what the input gave
abbrev pub IsInput : Heard → Input → Type 0
IsInput i (input.Whole bytes) = WereLeft i.left bytes × (length bytes ≤ most_bytes)
IsInput i input.TooLong = IsLong i.left
IsInput i input.Failed = Rose i.before i.after
