-- Shelves: for each list of symbols the places that are kept under it.
use Rattle.std.specs.Prelude.{ℕ, List, [], Option, Some, None, slice_index_or}
use Rattle.std.specs.BTreeMap.{get_by}
use Rattle.std.specs.Cmp.Lexicographic.{slice_cmp}
use Rattle.std.specs.Ordering.{nat_cmp}
use Rattle.fo_index.specs.declared.shelves.Shelves.{Shelves}

-- the list of this number; none is empty
abbrev pub list_of : List (List ℕ) → Option ℕ → List ℕ
list_of lists None = []
list_of lists (Some n) = slice_index_or lists n []

-- the places that are kept under these symbols
abbrev pub kept : Shelves → List ℕ → List ℕ
kept s key = list_of s.lists.items (get_by (λ k. slice_cmp nat_cmp key k.items) s.numbers)
