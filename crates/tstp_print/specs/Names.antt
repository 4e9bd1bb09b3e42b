-- How the names of symbols and statements are written.
use Rattle.std.specs.Prelude.{ℕ, zero, suc, ◌+◌, ◌-◌, ◌==◌, ◌||◌, ◌&&◌, not, nat_lt, Bool, false, if◌then◌else◌, List, [], ◌∷◌, ◌++◌, length, slice_get, unwrap_or, codes, decimal}
use Rattle.std.specs.List.{list_all, list_any, filter, flat_map}
use Rattle.std.specs.Char.{is_ascii_lowercase}
use Rattle.std.specs.Str.{bytes_eq}
use Rattle.text_kit.specs.Tokens.{is_word_byte}

-- a small letter, and letters, digits and `_` behind it
abbrev pub is_lower_word : List ℕ → Bool
is_lower_word [] = false
is_lower_word (b ∷ bs) = is_ascii_lowercase b && list_all is_word_byte bs

-- a byte between quotes, behind a backslash where it is one itself or a quote
abbrev pub escaped : ℕ → List ℕ
escaped b = if b == 92 || b == 39 then 92 ∷ b ∷ [] else b ∷ []

-- a name, in quotes where it is no such word
abbrev pub name_text : List ℕ → List ℕ
name_text name = if is_lower_word name then name else 39 ∷ (flat_map escaped name ++ 39 ∷ [])

-- ---- symbols that the text of the problem doesn't have

-- the numbers below `n`
abbrev pub below : ℕ → List ℕ
below zero = []
below (suc n) = below n ++ n ∷ []

abbrev pub new_name : ℕ → List ℕ
new_name k = codes "sk_" ++ decimal k

-- a symbol of the text has that name
abbrev pub is_taken : List (List ℕ) → ℕ → Bool
is_taken names k = list_any (λ name. bytes_eq name (new_name k)) names

-- the numbers below `m` whose names aren't taken
abbrev pub free_numbers : List (List ℕ) → ℕ → List ℕ
free_numbers names m = filter (λ k. not (is_taken names k)) (below m)

-- the number in the name of the `n`th new symbol, from 0: the `n`th number whose name isn't taken. At most as many are taken as there are names
abbrev pub new_number : List (List ℕ) → ℕ → ℕ
new_number names n = unwrap_or (slice_get (free_numbers names (n + 1 + length names)) n) 0

-- a symbol of the text by its name there, a new one by its number
abbrev pub symbol_text : List (List ℕ) → ℕ → List ℕ
symbol_text names f = if nat_lt f (length names) then name_text (unwrap_or (slice_get names f) []) else new_name (new_number names (f - length names))
