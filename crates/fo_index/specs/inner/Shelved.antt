-- What stands on shelves, and what a call of them adds.
use Rattle.std.specs.Prelude.{ℕ, ◌≡◌, ◌++◌, List, Contains, slice_get, Some}
use Rattle.fo_index.specs.declared.filed.Filed.{Filed}
use Rattle.fo_index.specs.declared.shelves.Shelves.{Shelves}
use Rattle.fo_index.specs.inner.Numbered.{kept}

-- what was kept is kept
abbrev pub Grows : Shelves → Shelves → Type 0
Grows before now = (key : List ℕ) (k : ℕ) → Contains (kept before key) k → Contains (kept now key) k

-- this place is kept under the whole front, and under each beginning of it
pub record IsShelved (whole begun : Shelves) (front : List ℕ) (k : ℕ) : Type 0 where
  pub ends : Contains (kept whole front) k
  pub passes : (key rest : List ℕ) → front ≡ key ++ rest → Contains (kept begun key) k

-- each entry is found by its front
abbrev pub AreShelved : Shelves → Shelves → List Filed → Type 0
AreShelved whole begun filed = (k : ℕ) (entry : Filed) → slice_get filed k ≡ Some entry → IsShelved whole begun entry.front k
