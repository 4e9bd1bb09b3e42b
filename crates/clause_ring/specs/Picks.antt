-- What is picked of a list of entries, which stand in the order in which they came.
use Rattle.std.specs.Prelude.{◌≡◌, ◌<◌, ◌≤◌, ◌⊎◌, List, ◌∷◌, ◌++◌, All}
use Rattle.clause_ring.specs.declared.entry.Entry.{Entry}

-- the first is no heavier than the second, and where both weigh as much its number is no greater
abbrev pub IsNoHeavier : Entry → Entry → Type 0
IsNoHeavier e other = (e.weight < other.weight) ⊎ ((e.weight ≡ other.weight) × (e.number ≤ other.number))

-- the entry was taken out, and the others stay in their order
pub record Without (before : List Entry) (e : Entry) (now : List Entry) : Type 0 where
  pub older : List Entry
  pub newer : List Entry
  pub stood : before ≡ older ++ e ∷ newer
  pub stay : now ≡ older ++ newer

-- the lightest was taken out, and of those that weigh as much the one of the least number
pub record TakesLightest (before : List Entry) (e : Entry) (now : List Entry) : Type 0 where
  pub without : Without before e now
  pub lightest : All (IsNoHeavier e) before
