-- The names that a proof text may use.
use Rattle.std.specs.Prelude.{ℕ, List, [], ◌∷◌, slice_get, codes, Option, Some, None, unwrap_or}
use Rattle.theory_reader.specs.declared.theory.Theory.{Theory}
use Rattle.theory_reader.specs.Sound.{const_names, fact_names}
use Rattle.theory_reader.specs.Seen.{seen}

-- the base types, bool being the first, the constants, and the facts that the goal is proved from, each by its number
pub record Names : Type 0 where
  pub types : List (List ℕ)
  pub consts : List (List ℕ)
  pub facts : List (List ℕ)

-- the names beside the goal with this number
abbrev pub names_of : Theory → ℕ → Names
names_of t goal = record { types = codes "bool" ∷ t.types; consts = const_names t.consts; facts = fact_names (seen t goal) }

-- the name of a number; no bytes where there is none
abbrev pub name_in : List (List ℕ) → ℕ → List ℕ
name_in names n = unwrap_or (slice_get names n) []

-- the number of a name; 0 where it isn't declared
abbrev pub number_of : Option ℕ → ℕ
number_of None = 0
number_of (Some n) = n
