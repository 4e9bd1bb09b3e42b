-- What the printer of terms appends.
use Rattle.std.specs.Prelude.{◌≡◌, ℕ, nat_le, if◌then◌else◌, List, [], ◌∷◌, ◌++◌, Option, Some}
use Rattle.theory_terms.specs.Signature.{Declared}
use Rattle.theory_print.specs.declared.sort.Sort.{Sort}
use Rattle.theory_print.specs.declared.vocabulary.Vocabulary.{Vocabulary}
use Rattle.theory_print.specs.Lexemes.{Lexeme, Open, Close, laid}
use Rattle.theory_print.specs.Shapes.{Shape}
use Rattle.theory_print.specs.Written.{rank, lexemes}

-- the declarations that give the names
abbrev pub declared_in : Vocabulary → Declared
declared_in v = record { types = v.types.now; consts = v.consts.now }

-- the brackets that are wanted, if any
abbrev pub opening : Sort → Sort → List Lexeme
opening own wanted = if nat_le (rank own) (rank wanted) then [] else Open ∷ []

abbrev pub closing : Sort → Sort → List Lexeme
closing own wanted = if nat_le (rank own) (rank wanted) then [] else Close ∷ []

-- the bytes of a shape are appended, where there is one and its term isn't too deep
abbrev pub Writes : Vocabulary → ℕ → Sort → Option Shape → Type 0 → List ℕ → List ℕ → Type 0
Writes v depth s o Low old new = (p : Shape) → o ≡ Some p → Low → new ≡ old ++ laid (lexemes v.number (declared_in v) p depth s)
