-- What a problem's text is written of: words and signs, with their bytes and their tokens.
use Rattle.std.specs.Prelude.{ℕ, Bool, true, false, ◌||◌, ◌&&◌, List, [], ◌∷◌, ◌++◌, codes, decimal}
use Rattle.std.specs.List.{list_all}
use Rattle.tptp_syntax.specs.declared.tokens.Quant.TheVariants as quant
use Rattle.tptp_syntax.specs.declared.tokens.Chain.TheVariants as chain
use Rattle.tptp_syntax.specs.declared.tokens.Pair.TheVariants as pair
use Rattle.tptp_syntax.specs.declared.tokens.Tok.{Tok}
use Rattle.tptp_syntax.specs.declared.tokens.Tok.TheVariants as tok
use Rattle.tptp_syntax.specs.Tokens.{is_lower, is_word_byte}

-- a sign with the blanks around it
pub data Mark : Type 0 where
  Open : Mark
  Close : Mark
  SquareOpen : Mark
  SquareClose : Mark
  Colon : Mark
  Comma : Mark
  NextPart : Mark
  Dot : Mark
  Tilde : Mark
  Each : Mark
  One : Mark
  And : Mark
  Or : Mark
  Imp : Mark
  Iff : Mark
  Equal : Mark

abbrev pub mark_spelling : Mark → List ℕ
mark_spelling Open = codes "("
mark_spelling Close = codes ")"
mark_spelling SquareOpen = codes "["
mark_spelling SquareClose = codes "]"
mark_spelling Colon = codes " : "
mark_spelling Comma = codes ","
mark_spelling NextPart = codes ", "
mark_spelling Dot = codes ".\n"
mark_spelling Tilde = codes "~ "
mark_spelling Each = codes "! "
mark_spelling One = codes "? "
mark_spelling And = codes " & "
mark_spelling Or = codes " | "
mark_spelling Imp = codes " => "
mark_spelling Iff = codes " <=> "
mark_spelling Equal = codes " = "

abbrev pub mark_tok : Mark → Tok
mark_tok Open = tok.Open false
mark_tok Close = tok.Close false
mark_tok SquareOpen = tok.Open true
mark_tok SquareClose = tok.Close true
mark_tok Colon = tok.Colon
mark_tok Comma = tok.Comma
mark_tok NextPart = tok.Comma
mark_tok Dot = tok.Dot
mark_tok Tilde = tok.Tilde
mark_tok Each = tok.Quant quant.Each
mark_tok One = tok.Quant quant.One
mark_tok And = tok.Chain chain.And
mark_tok Or = tok.Chain chain.Or
mark_tok Imp = tok.Pair pair.Imp
mark_tok Iff = tok.Pair pair.Iff
mark_tok Equal = tok.Equal true

pub data Lexeme : Type 0 where
  Name : List ℕ → Lexeme
  Variable : ℕ → Lexeme
  Truth : Bool → Lexeme
  Sign : Mark → Lexeme

abbrev pub variable_word : ℕ → List ℕ
variable_word n = codes "X" ++ decimal n

abbrev pub truth_spelling : Bool → List ℕ
truth_spelling true = codes "$true"
truth_spelling false = codes "$false"

abbrev pub spelling : Lexeme → List ℕ
spelling (Name w) = w
spelling (Variable n) = variable_word n
spelling (Truth b) = truth_spelling b
spelling (Sign m) = mark_spelling m

abbrev pub laid : List Lexeme → List ℕ
laid [] = []
laid (x ∷ xs) = spelling x ++ laid xs

-- ---- lexemes that are cut as they were laid: names are words, and no two words stand side by side
abbrev pub is_lower_word : List ℕ → Bool
is_lower_word [] = false
is_lower_word (b ∷ bs) = is_lower b && list_all is_word_byte bs

abbrev pub fine : Lexeme → Bool
fine (Name w) = is_lower_word w
fine _ = true

abbrev pub is_sign : Lexeme → Bool
is_sign (Sign m) = true
is_sign _ = false

abbrev pub sign_first : List Lexeme → Bool
sign_first [] = true
sign_first (x ∷ xs) = is_sign x

abbrev pub cuttable : List Lexeme → Bool
cuttable [] = true
cuttable (x ∷ xs) = fine x && ((is_sign x || sign_first xs) && cuttable xs)
