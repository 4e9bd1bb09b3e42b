-- What a name is, and when names differ.
use Rattle.std.specs.Prelude.{ℕ, nat_le, Bool, true, false, not, ◌&&◌, List, [], ◌∷◌, length, codes}
use Rattle.std.specs.List.{list_any, list_all}
use Rattle.std.specs.Char.{is_ascii_alphabetic}
use Rattle.std.specs.Str.{bytes_eq}
use Rattle.text_kit.specs.Tokens.{is_word_byte}

-- the words of the language, which name nothing
abbrev pub reserved : List (List ℕ)
reserved =
    codes "type" ∷ codes "const" ∷ codes "fact" ∷ codes "goal" ∷ codes "assume" ∷ codes "bool" ∷ codes "true" ∷ codes "false" ∷ []

-- a letter, and then letters, digits and `_`, at most 64 bytes
abbrev pub is_word : List ℕ → Bool
is_word [] = false
is_word (b ∷ bs) = is_ascii_alphabetic b && list_all is_word_byte bs && nat_le (length (b ∷ bs)) 64

-- a word that isn't reserved
unfoldable pub is_name : List ℕ → Bool
is_name w = is_word w && not (list_any (bytes_eq w) reserved)

-- no two of the names are the same
abbrev pub distinct : List (List ℕ) → Bool
distinct [] = true
distinct (w ∷ ws) = not (list_any (bytes_eq w) ws) && distinct ws
