-- What an index gives for a term.
use Rattle.std.specs.Prelude.{ℕ, ◌≡◌, List, Contains}
use Rattle.std.specs.List.Sorted.{IsStrictlyIncreasing}
use Rattle.fo_index.specs.declared.filed.Filed.{Filed}
use Rattle.fo_index.specs.Fronts.{Meets}

-- the id was filed under a front that meets this one
pub record IsMet (filed : List Filed) (front : List ℕ) (id : ℕ) : Type 0 where
  pub entry : Filed
  pub stands : Contains filed entry
  pub id_is : entry.id ≡ id
  pub meets : Meets entry.front front

-- each id that was filed under a front that meets this one, in ascending order and once
pub record AreMet (filed : List Filed) (front : List ℕ) (ids : List ℕ) : Type 0 where
  pub all : (id : ℕ) → IsMet filed front id → Contains ids id
  pub only : (id : ℕ) → Contains ids id → IsMet filed front id
  pub ascending : IsStrictlyIncreasing ids
