-- What is printed: lexemes in a row.
use Rattle.std.specs.Prelude.{◌≡◌, ℕ, Bool, true, false, List, [], ◌∷◌, ◌++◌, codes}
use Rattle.std.specs.List.{list_all}
use Rattle.theory_syntax.specs.declared.tokens.Word.{Word}
use Rattle.theory_syntax.specs.declared.tokens.Quant.{Quant}
use Rattle.theory_syntax.specs.declared.tokens.Quant.TheVariants as quant
use Rattle.theory_syntax.specs.declared.tokens.Tok.{Tok}
use Rattle.theory_syntax.specs.declared.tokens.Tok.TheVariants as tok
use Rattle.theory_syntax.specs.declared.tree.Op.{Op}
use Rattle.theory_syntax.specs.declared.tree.Op.TheVariants as op
use Rattle.theory_syntax.specs.Grammar.{sign}
use Rattle.theory_terms.specs.Words.{word_at}

-- a token without its place
pub data Lexeme : Type 0 where
  Name : List ℕ → Lexeme
  Truth : Bool → Lexeme
  Binder : Quant → Lexeme
  Sign : Op → Lexeme
  Equal : Lexeme
  Tilde : Lexeme
  Open : Lexeme
  Close : Lexeme
  Colon : Lexeme
  Dot : Lexeme
  Arrow : Lexeme
  BoolWord : Lexeme
  TypeWord : Lexeme
  ConstWord : Lexeme
  FactWord : Lexeme
  GoalWord : Lexeme
  AssumeWord : Lexeme
  Semi : Lexeme

abbrev pub truth_word : Bool → List ℕ
truth_word true = codes "true"
truth_word false = codes "false"

abbrev pub binder_mark : Quant → List ℕ
binder_mark quant.All = codes "!"
binder_mark quant.Ex = codes "?"
binder_mark quant.Lambda = codes "\\"
binder_mark quant.Eps = codes "@"

abbrev pub sign_mark : Op → List ℕ
sign_mark op.Imp = codes "==>"
sign_mark op.Or = codes "|"
sign_mark op.And = codes "&"

-- the bytes of a lexeme
abbrev pub spelling : Lexeme → List ℕ
spelling (Name n) = n
spelling (Truth b) = truth_word b
spelling (Binder q) = binder_mark q
spelling (Sign o) = sign_mark o
spelling Equal = codes "="
spelling Tilde = codes "~"
spelling Open = codes "("
spelling Close = codes ")"
spelling Colon = codes ":"
spelling Dot = codes "."
spelling Arrow = codes "->"
spelling BoolWord = codes "bool"
spelling TypeWord = codes "type"
spelling ConstWord = codes "const"
spelling FactWord = codes "fact"
spelling GoalWord = codes "goal"
spelling AssumeWord = codes "assume"
spelling Semi = codes ";"

-- a line ends behind `;`, and a space stands behind any other lexeme
abbrev pub behind : Lexeme → ℕ
behind Semi = 10
behind _ = 32

-- the bytes of lexemes in a row
abbrev pub laid : List Lexeme → List ℕ
laid [] = []
laid (x ∷ xs) = spelling x ++ behind x ∷ laid xs

-- a token of a text says a lexeme
abbrev pub Says : List ℕ → Lexeme → Tok → Type 0
Says text (Name n) t = (w : Word) × (t ≡ tok.Word w) × (word_at text w ≡ n)
Says text (Truth b) t = (at : ℕ) × (t ≡ tok.Truth b at)
Says text (Binder q) t = (at : ℕ) × (t ≡ tok.Quant q at)
Says text (Sign o) t = t ≡ sign o
Says text Equal t = t ≡ tok.Equal
Says text Tilde t = (at : ℕ) × (t ≡ tok.Tilde at)
Says text Open t = (at : ℕ) × (t ≡ tok.Open at)
Says text Close t = t ≡ tok.Close
Says text Colon t = t ≡ tok.Colon
Says text Dot t = t ≡ tok.Dot
Says text Arrow t = t ≡ tok.Arrow
Says text BoolWord t = t ≡ tok.Bool
Says text TypeWord t = t ≡ tok.Type
Says text ConstWord t = t ≡ tok.Const
Says text FactWord t = t ≡ tok.Fact
Says text GoalWord t = t ≡ tok.Goal
Says text AssumeWord t = t ≡ tok.Assume
Says text Semi t = t ≡ tok.Semi

-- tokens of a text say lexemes, one by one
abbrev pub Spells : List ℕ → List Lexeme → List Tok → Type 0
Spells text [] ts = ts ≡ []
Spells text (x ∷ xs) ts = (t : Tok) × (rest : List Tok) × (ts ≡ t ∷ rest) × Says text x t × Spells text xs rest

-- each name among the lexemes passes a test
abbrev pub name_passes : (List ℕ → Bool) → Lexeme → Bool
name_passes ok (Name n) = ok n
name_passes ok _ = true

abbrev pub names_pass : (List ℕ → Bool) → List Lexeme → Bool
names_pass ok xs = list_all (name_passes ok) xs
