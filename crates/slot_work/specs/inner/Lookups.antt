-- What a table of names finds.
use Rattle.std.specs.Prelude.{ℕ, ◌≡◌, Bool, List, [], ◌∷◌, ◌++◌}
use Rattle.std.specs.List.{list_any}
use Rattle.std.specs.Str.{bytes_eq}

-- the name is one of these
abbrev pub is_named : List (List ℕ) → List ℕ → Bool
is_named names name = list_any (bytes_eq name) names

-- the table finds these names and no other
abbrev pub FindsNames : List (List ℕ) → List (List ℕ) → Type 0
FindsNames names table = (name : List ℕ) → is_named table name ≡ is_named names name

-- it finds one more
abbrev pub AddsName : List (List ℕ) → List (List ℕ) → List ℕ → Type 0
AddsName old new name = FindsNames (old ++ name ∷ []) new
