-- Marks of numbers.
use Rattle.std.specs.Prelude.{ℕ, ◌≡◌, ◌<◌, Bool, false, List, length, get_or}
use Rattle.sledge_engine.specs.Used.{is_listed}

-- the marks say of each number below `count` whether it is one of these
pub record Marks (count : ℕ) (numbers : List ℕ) (marks : List Bool) : Type 0 where
  pub all : length marks ≡ count
  pub says : (i : ℕ) → i < count → get_or marks i false ≡ is_listed numbers i
