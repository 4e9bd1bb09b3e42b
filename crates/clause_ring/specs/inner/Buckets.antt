-- The buckets: for each weight the places of its entries.
use Rattle.std.specs.Prelude.{ℕ, ◌≡◌, ◌<◌, List, [], ◌∷◌, slice_index_or}

-- all buckets before this one are empty
abbrev pub AreEmpty : List (List ℕ) → ℕ → Type 0
AreEmpty buckets many = (v : ℕ) → v < many → slice_index_or buckets v [] ≡ []

-- this bucket holds something, and none before it does
pub record IsFirstFilled (buckets : List (List ℕ)) (w : ℕ) : Type 0 where
  pub lighter : AreEmpty buckets w
  pub first : ℕ
  pub rest : List ℕ
  pub held : slice_index_or buckets w [] ≡ first ∷ rest
