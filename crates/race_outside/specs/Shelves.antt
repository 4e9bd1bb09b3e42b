-- What a shelf holds and what a fetch gives of it.
use Rattle.std.specs.Prelude.{ℕ, ◌≡◌, ◌+◌, ◌≤◌, List, [], ◌∷◌, Bool, true, false, length, take, Option, Some, None, option_map, unwrap_or, if◌then◌else◌}
use Rattle.std.specs.Str.{bytes_eq}
use Rattle.race_outside.specs.declared.held.Held.{Held}

-- for each name the bytes that are held under it, if any
abbrev pub Files : Type 0
Files = List ℕ → Option (List ℕ)

-- the files of a list; of several with one name the first is held
abbrev pub files_of : List Held → Files
files_of [] name = None
files_of (file ∷ more) name = if bytes_eq file.name name then Some file.bytes else files_of more name

-- `bytes` are the first `limit + 1` bytes held under the name, or all where there are fewer
abbrev pub Fetched : Option Files → List ℕ → ℕ → List ℕ → Type 0
Fetched None name limit bytes = length bytes ≤ limit + 1
Fetched (Some files) name limit bytes = option_map (take (limit + 1)) (files name) ≡ Some bytes

-- `bytes` are a beginning of these
abbrev pub Begun : Option Files → List ℕ → ℕ → List ℕ → Type 0
Begun None name limit bytes = length bytes ≤ limit + 1
Begun (Some files) name limit bytes = take (length bytes) (take (limit + 1) (unwrap_or (files name) [])) ≡ bytes

-- the shelf tells that it holds nothing under the name
abbrev pub Lacks : Option Files → List ℕ → Type 0
Lacks None name = ⊥
Lacks (Some files) name = files name ≡ None

-- no fetch is listed as one that fails
abbrev pub is_none_listed : List ℕ → Bool
is_none_listed [] = true
is_none_listed (call ∷ more) = false
