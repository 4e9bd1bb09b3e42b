-- The names of bound variables: one beginning, which no constant's name has, and the number of binders around.
use Rattle.std.specs.Prelude.{◌≡◌, ◌⊎◌, ℕ, ◌+◌, ◌<◌, ◌^◌, ◌==◌, not, Bool, true, false, List, ◌++◌, take, decimal, codes, is_some, All}
use Rattle.std.specs.List.{list_any, prefix_len}
use Rattle.std.specs.Str.{bytes_eq}
use Rattle.theory_terms.specs.declared.decl.Decl.{Decl}
use Rattle.theory_terms.specs.Words.{place}

-- `x`, a number and `_`
abbrev pub beginning : ℕ → List ℕ
beginning k = codes "x" ++ (decimal k ++ codes "_")

-- the name of a binder that stands in `depth` others
abbrev pub variable : ℕ → ℕ → List ℕ
variable k depth = beginning k ++ decimal depth

-- the name doesn't begin so
abbrev pub BeginsElse : List ℕ → List ℕ → Type 0
BeginsElse front name = (rest : List ℕ) → name ≡ front ++ rest → ⊥

-- no constant's name begins as those of bound variables do
abbrev pub IsFresh : ℕ → List Decl → Type 0
IsFresh k consts = (k < 2 ^ 32) × All (λ d. BeginsElse (beginning k) d.name) consts

-- the first such number
abbrev pub IsFirstFresh : ℕ → List Decl → Type 0
IsFirstFresh k consts = IsFresh k consts × ((j : ℕ) → j < k → IsFresh j consts → ⊥)

-- a byte other than `_`
abbrev pub is_before : ℕ → Bool
is_before b = not (b == 95)

-- a name up to its first `_`, or all of it
abbrev pub front_of : List ℕ → List ℕ
front_of name = take (prefix_len is_before name + 1) name

-- a name is held, what was held still is, and nothing else
abbrev pub Holds : List (List ℕ) → List ℕ → List (List ℕ) → Type 0
Holds old name new =
    (is_some (place name new) ≡ true) × ((other : List ℕ) → is_some (place other old) ≡ true → is_some (place other new) ≡ true)
    × ((other : List ℕ) → is_some (place other new) ≡ true → (other ≡ name) ⊎ (is_some (place other old) ≡ true))

-- the name is a constant's front
abbrev pub IsFront : List ℕ → List Decl → Type 0
IsFront name consts = list_any (λ d. bytes_eq (front_of d.name) name) consts ≡ true

-- the first number whose beginning isn't among names
abbrev pub IsFirstFree : ℕ → List (List ℕ) → Type 0
IsFirstFree k names = (k < 2 ^ 32) × (is_some (place (beginning k) names) ≡ false) × ((j : ℕ) → j < k → is_some (place (beginning j) names) ≡ true)
