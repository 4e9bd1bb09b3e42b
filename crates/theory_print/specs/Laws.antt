-- What is printed is read as what was printed, within the same limit.
use Rattle.std.specs.Prelude.{◌≡◌, ℕ, ◌<◌, ◌≤◌, ◌^◌, Bool, IsTrue, List, [], ◌++◌, Some}
use Rattle.std.specs.List.{list_all}
use Rattle.hol_terms.specs.declared.ty.Ty.{Ty}
use Rattle.hol_terms.specs.declared.term.Term.{Term}
use Rattle.theory_syntax.specs.declared.tokens.Tok.{Tok}
use Rattle.theory_syntax.specs.declared.tree.TyTree.{TyTree}
use Rattle.theory_syntax.specs.declared.tree.Tree.{Tree}
use Rattle.theory_syntax.specs.Grammar.{Placed, IsType, Whole, Derives, Formula}
use Rattle.theory_syntax.specs.Machine.{put}
use Rattle.theory_syntax.specs.Reading.{Within}
use Rattle.theory_terms.specs.declared.decl.Decl.{Decl}
use Rattle.theory_terms.specs.Answers.{Good}
use Rattle.theory_terms.specs.Signature.{Declared}
use Rattle.theory_terms.specs.Types.{type_of_tree}
use Rattle.theory_terms.specs.Meanings.{depth, sentence}
use Rattle.theory_print.specs.Lexemes.{Lexeme, names_pass, Spells}
use Rattle.theory_print.specs.Types.{type_lexemes}
use Rattle.theory_print.specs.Names.{variable, IsFresh}
use Rattle.theory_print.specs.Written.{sentence_lexemes}

-- the later declarations go on from the earlier ones
pub record Extends (known later : Declared) : Type 0 where
  pub more_types : List (List ℕ)
  pub more_consts : List Decl
  pub types : later.types ≡ known.types ++ more_types
  pub consts : later.consts ≡ known.consts ++ more_consts

-- tokens that stand outside of every bracket read as a type within the limit
pub record ReadsType (limit : ℕ) (text : List ℕ) (known : Declared) (ts : List Tok) (a : Ty) : Type 0 where
  pub placed : List Placed
  pub tree : TyTree
  pub derived : IsType 0 Whole placed tree
  pub within : Within limit placed
  pub tokens : ts ≡ put placed []
  pub means : type_of_tree text known tree ≡ Good a

-- tokens that stand outside of every bracket read as a sentence within the limit
pub record ReadsSentence (limit : ℕ) (text : List ℕ) (known : Declared) (ts : List Tok) (t : Term) : Type 0 where
  pub placed : List Placed
  pub tree : Tree
  pub derived : Derives 0 Formula placed tree
  pub within : Within limit placed
  pub tokens : ts ≡ put placed []
  pub means : sentence text known tree ≡ Good t

-- a type that some tokens read as has its names among the declared types, and is what its lexemes read as, in any text, where as
-- much or more is declared
abbrev pub TypesAreReadAgain : Type 0
TypesAreReadAgain = (limit : ℕ) (text : List ℕ) (known : Declared) (ts : List Tok) (a : Ty) → ReadsType limit text known ts a → (later : Declared) → Extends known later →
    ((ok : List ℕ → Bool) → IsTrue (list_all ok later.types) → IsTrue (names_pass ok (type_lexemes later.types a Whole))) ×
    ((out : List ℕ) (us : List Tok) → Spells out (type_lexemes later.types a Whole) us → ReadsType limit out later us a)

-- the lexemes of a sentence: their names are declared, or those of bound variables, and in any text they read as it
pub record Prints (limit k : ℕ) (later : Declared) (t : Term) : Type 0 where
  pub lexemes : List Lexeme
  pub written : sentence_lexemes k later t ≡ Some lexemes
  pub shallow : depth t ≤ 1024
  pub names : (ok : List ℕ → Bool) → IsTrue (list_all ok later.types) → IsTrue (list_all (λ d. ok d.name) later.consts) → ((d : ℕ) → d ≤ limit → IsTrue (ok (variable k d))) →
      IsTrue (names_pass ok lexemes)
  pub again : (out : List ℕ) (us : List Tok) → Spells out lexemes us → ReadsSentence limit out later us t

-- a sentence that some tokens read as is printed so, where as much or more is declared
abbrev pub SentencesAreReadAgain : Type 0
SentencesAreReadAgain = (limit : ℕ) (text : List ℕ) (known : Declared) (ts : List Tok) (t : Term) → limit < 2 ^ 64 → ReadsSentence limit text known ts t →
    (later : Declared) → Extends known later → (k : ℕ) → IsFresh k later.consts → Prints limit k later t
