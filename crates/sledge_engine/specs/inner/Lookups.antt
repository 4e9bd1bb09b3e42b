-- What a table of names finds.
use Rattle.std.specs.Prelude.{ℕ, ◌≡◌, List, [], ◌∷◌, ◌++◌}
use Rattle.sledge_engine.specs.Choice.{is_named}

-- it finds these names and no other
abbrev pub Finds : List (List ℕ) → List (List ℕ) → Type 0
Finds names table = (name : List ℕ) → is_named table name ≡ is_named names name

-- it finds one more
abbrev pub Adds : List (List ℕ) → List (List ℕ) → List ℕ → Type 0
Adds old new name = Finds (old ++ name ∷ []) new
