-- Words of a text, and the places of names.
use Rattle.std.specs.Prelude.{ℕ, ◌+◌, List, [], ◌∷◌, take, drop, position, Option, Some, None}
use Rattle.std.specs.Str.{bytes_eq}
use Rattle.theory_syntax.specs.declared.tokens.Word.{Word}

-- the bytes of a word
abbrev pub word_at : List ℕ → Word → List ℕ
word_at text w = take w.len (drop w.start text)

-- the first place of a name among names
abbrev pub place : List ℕ → List (List ℕ) → Option ℕ
place name names = position (bytes_eq name) names
