-- Which waiting clause becomes the given clause.
use Rattle.std.specs.Prelude.{◌≡◌, ℕ, ◌%◌, ◌<◌, ◌≤◌, ◌==◌, ◌⊎◌, List, All, AllPairs, Contains, MatchBool}
use Rattle.clause_ring.specs.declared.entry.Entry.{Entry}

-- the entry of least number
abbrev pub IsOldest : List Entry → Entry → Type 0
IsOldest waiting e = Contains waiting e × All (λ d. e.number ≤ d.number) waiting

-- lighter, or of the same weight and no later number
abbrev pub Precedes : Entry → Entry → Type 0
Precedes e d = (e.weight < d.weight) ⊎ ((e.weight ≡ d.weight) × (e.number ≤ d.number))

-- the entry of least weight, then number
abbrev pub IsLightest : List Entry → Entry → Type 0
IsLightest waiting e = Contains waiting e × All (Precedes e) waiting

-- each number is less than all later ones
abbrev pub AreAscending : List Entry → Type 0
AreAscending waiting = AllPairs (λ e d. e.number < d.number) waiting

-- the pick of this number, counted from 1, takes the oldest where the age divides it, else the lightest
abbrev pub IsPicked : ℕ → ℕ → List Entry → Entry → Type 0
IsPicked age pick waiting e = MatchBool (pick % age == 0) (IsOldest waiting e) (IsLightest waiting e)
