-- What a ring keeps.
use Rattle.std.specs.Prelude.{ℕ, ◌≡◌, ◌<◌, List, [], ◌∷◌, All, length, slice_index_or}
use Rattle.clause_ring.specs.declared.entry.Entry.{Entry}
use Rattle.clause_ring.specs.inner.Ages.{Line, waiting, places_in}

-- each number is greater than those before it
abbrev pub Ascends : List Entry → Type 0
Ascends [] = Unit {0}
Ascends (e ∷ es) = All (λ x. e.number < x.number) es × Ascends es

-- there is a bucket for each weight, with the places of its entries that wait
pub record IsRing (buckets : List (List ℕ)) (line : Line) : Type 0 where
  pub many : length buckets ≡ 513
  pub filled : (w : ℕ) → w < 513 → slice_index_or buckets w [] ≡ places_in w line
  pub light : All (λ e. e.weight < 513) (waiting line.aged)
  pub ascends : Ascends (waiting line.aged)
