-- What a sink took of a piece.
use Rattle.std.specs.Prelude.{ℕ, ◌≡◌, ◌++◌, List, Option, Some, None}

-- it took the whole piece
abbrev pub TookAll : Option (List ℕ) → List ℕ → Option (List ℕ) → Type 0
TookAll (Some before) piece (Some now) = now ≡ before ++ piece
TookAll None piece None = Unit {0}
TookAll _ piece _ = ⊥

-- it took a beginning of the piece
abbrev pub TookSome : Option (List ℕ) → List ℕ → Option (List ℕ) → Type 0
TookSome before piece now = (begin rest : List ℕ) × (begin ++ rest ≡ piece) × TookAll before begin now
