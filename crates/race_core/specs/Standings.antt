-- How a launcher stands.
use Rattle.std.specs.Prelude.{ℕ, Bool, List, Option, ◌==◌}
use Rattle.std.specs.List.{list_any}
use Rattle.race_core.specs.declared.slot.Order.{Order}

-- what a launcher has done, how often it failed, and what its clock has said
pub record Standing : Type 0 where
  -- how many starts succeeded
  pub starts : ℕ
  -- what these were started with, in their order, where that is told
  pub orders : Option (List Order)
  -- the ids that were killed, in their order
  pub kills : List ℕ
  -- the ids that were waited for, in their order
  pub waits : List ℕ
  -- how often it failed; the count stands still at the end of its type
  pub faults : ℕ
  -- the greatest moment that its clock has given
  pub last : ℕ

-- a number is in a list
abbrev pub is_listed : ℕ → List ℕ → Bool
is_listed x xs = list_any (λ y. y == x) xs
