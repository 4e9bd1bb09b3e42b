-- What the notes of a launcher in memory keep.
use Rattle.std.specs.Prelude.{ℕ, ◌<◌, ◌≤◌, ◌^◌, List, All, nat_eq}
use Rattle.std.specs.List.{IsDistinct}

-- ids that were noted: none twice, each below the bound; there is room for every id below it
pub record HasRoom (bound : ℕ) (ids : List ℕ) (capacity : ℕ) : Type 0 where
  pub distinct : IsDistinct nat_eq ids
  pub below : All (λ i. i < bound) ids
  pub room : bound ≤ capacity

pub record IsNoted (starts : ℕ) (kills waits : List ℕ) (kills_room waits_room last : ℕ) : Type 0 where
  pub killed : HasRoom starts kills kills_room
  pub waited : HasRoom starts waits waits_room
  pub bound : last < 2 ^ 63
