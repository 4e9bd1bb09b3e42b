-- The slices: how many facts are chosen, by what mark, and how the mark rises.
use Rattle.std.specs.Prelude.{◌≡◌, ℕ, ◌+◌, ◌/◌, ◌%◌, ◌<◌, List, [], ◌∷◌, slice_index_or}
use Rattle.mepo_filter.specs.declared.slice.Slice.{Slice}

-- a slice of this many facts, whose mark is so many of 2 ^ 20 parts and rises by `rise` of `of` parts of what it lacks of one
abbrev pub row : ℕ → ℕ → ℕ → ℕ → ℕ → Slice
row facts mark rise of age = record { facts = facts; mark = mark; rise = rise; of = of; age = age }

-- the eight rows at this age of the prover's picks
abbrev pub rows : ℕ → List Slice
rows age =
    row 32 524288 0 1 age ∷ row 128 393216 0 1 age ∷ row 64 524288 1 4 age ∷ row 256 262144 1 8 age
    ∷ row 512 262144 0 1 age ∷ row 16 786432 0 1 age ∷ row 1024 131072 0 1 age ∷ row 4096 0 0 1 age ∷ []

abbrev pub no_slice : Slice
no_slice = row 0 0 0 1 0

-- the slice of a number: the rows in turn, each time round with a greater age
abbrev pub slice_at : ℕ → Slice
slice_at k = slice_index_or (rows (3 + k / 8)) (k % 8) no_slice

-- the slice of some number below 64
abbrev pub IsSlice : Slice → Type 0
IsSlice s = (k : ℕ) × (k < 64) × (s ≡ slice_at k)
