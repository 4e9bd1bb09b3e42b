-- Ids that are collected from places.
use Rattle.std.specs.Prelude.{ℕ, ◌≡◌, ◌⊎◌, List, Contains, Some, slice_get}
use Rattle.fo_index.specs.declared.filed.Filed.{Filed}
use Rattle.fo_index.specs.Fronts.{Meets}
use Rattle.fo_index.specs.Candidates.{IsMet}

-- the ids at these places whose fronts meet this one were added, and no others but such that meet it
pub record Collects (filed : List Filed) (front : List ℕ) (Place : ℕ → Type 0) (before now : List ℕ) : Type 0 where
  pub stay : (id : ℕ) → Contains before id → Contains now id
  pub all : (k : ℕ) (entry : Filed) → Place k → slice_get filed k ≡ Some entry → Meets entry.front front → Contains now entry.id
  pub only : (id : ℕ) → Contains now id → Contains before id ⊎ IsMet filed front id
