-- How a type is written.
use Rattle.std.specs.Prelude.{ℕ, zero, suc, Bool, true, false, List, [], ◌∷◌, ◌++◌, slice_get, Option, Some, None}
use Rattle.hol_terms.specs.declared.ty.Ty.{Ty}
use Rattle.hol_terms.specs.declared.ty.Ty.TheOpen.{Ty-F}
use Rattle.hol_terms.specs.declared.ty.Ty.TheFolds.{fold-Ty}
use Rattle.theory_syntax.specs.Grammar.{TypeSort, Whole, Single}
use Rattle.theory_print.specs.Lexemes.{Lexeme, Name, Open, Close, Arrow, BoolWord}

-- a declared name, nothing where there is none
abbrev pub name_in : Option (List ℕ) → List ℕ
name_in None = []
name_in (Some n) = n

-- base type 0 is bool, and i + 1 the type that is declared at place i
abbrev pub base_lexeme : List (List ℕ) → ℕ → Lexeme
base_lexeme types zero = BoolWord
base_lexeme types (suc i) = Name (name_in (slice_get types i))

-- where one type alone is wanted, an arrow may not stand outside of brackets
abbrev pub type_sort : Bool → TypeSort
type_sort true = Single
type_sort false = Whole

-- in brackets, where an arrow may not stand outside of them
abbrev pub bracketed_type : TypeSort → List Lexeme → List Lexeme
bracketed_type Whole xs = xs
bracketed_type Single xs = Open ∷ xs ++ Close ∷ []

abbrev pub type_step : List (List ℕ) → Ty-F (TypeSort → List Lexeme) → TypeSort → List Lexeme
type_step types (Ty-F.Base i) s = base_lexeme types i ∷ []
type_step types (Ty-F.Arrow a b) s = bracketed_type s (a Single ++ Arrow ∷ b Whole)

-- the type with the fewest brackets, where a type of this sort is wanted
abbrev pub type_lexemes : List (List ℕ) → Ty → TypeSort → List Lexeme
type_lexemes types = fold-Ty (TypeSort → List Lexeme) (type_step types)
