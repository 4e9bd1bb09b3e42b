-- A number of nodes that is taken from what may be taken.
use Rattle.std.specs.Prelude.{◌≡◌, ℕ, ◌+◌, ◌<◌, Option, Some, None}

-- what is left, or none exactly where there is too little
abbrev pub Takes : ℕ → ℕ → Option ℕ → Type 0
Takes n most (Some rest) = n + rest ≡ most
Takes n most None = most < n
