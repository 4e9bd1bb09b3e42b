-- How a proof text is cut into words and signs.
use Rattle.std.specs.Prelude.{ℕ, ◌==◌, if◌then◌else◌, List, [], ◌∷◌, ◌++◌}
use Rattle.text_kit.specs.Tokens.{is_word_byte}

-- the signs of proof texts, and any other byte that no word has
pub data Sign : Type 0 where
  LineEnd : Sign
  Space : Sign
  Hash : Sign
  Dollar : Sign
  OpenRound : Sign
  CloseRound : Sign
  Dot : Sign
  Colon : Sign
  Greater : Sign
  OpenSquare : Sign
  CloseSquare : Sign
  OpenBrace : Sign
  CloseBrace : Sign
  Other : ℕ → Sign

abbrev pub sign_byte : Sign → ℕ
sign_byte LineEnd = 10
sign_byte Space = 32
sign_byte Hash = 35
sign_byte Dollar = 36
sign_byte OpenRound = 40
sign_byte CloseRound = 41
sign_byte Dot = 46
sign_byte Colon = 58
sign_byte Greater = 62
sign_byte OpenSquare = 91
sign_byte CloseSquare = 93
sign_byte OpenBrace = 123
sign_byte CloseBrace = 125
sign_byte (Other b) = b

abbrev pub sign_of : ℕ → Sign
sign_of b =
    if b == 10 then LineEnd else if b == 32 then Space else if b == 35 then Hash else if b == 36 then Dollar else if b == 40 then OpenRound else if b == 41 then CloseRound else if b == 46 then Dot else if b == 58 then Colon else if b == 62 then Greater else if b == 91 then OpenSquare else if b == 93 then CloseSquare else if b == 123 then OpenBrace else if b == 125 then CloseBrace else Other b

-- a longest run of letters, digits and `_`, or any other byte
pub data Tok : Type 0 where
  Word : List ℕ → Tok
  Mark : Sign → Tok

-- the byte of a word before what is cut already
abbrev pub joined : ℕ → List Tok → List Tok
joined b (Word w ∷ ts) = Word (b ∷ w) ∷ ts
joined b ts = Word (b ∷ []) ∷ ts

abbrev pub cut : List ℕ → List Tok
cut [] = []
cut (b ∷ bs) = if is_word_byte b then joined b (cut bs) else Mark (sign_of b) ∷ cut bs

-- the bytes of a token
abbrev pub spelling : Tok → List ℕ
spelling (Word w) = w
spelling (Mark s) = sign_byte s ∷ []

abbrev pub spelled : List Tok → List ℕ
spelled [] = []
spelled (t ∷ ts) = spelling t ++ spelled ts

abbrev pub line_end : Tok
line_end = Mark LineEnd

abbrev pub space : Tok
space = Mark Space

abbrev pub hash : Tok
hash = Mark Hash

abbrev pub dollar : Tok
dollar = Mark Dollar

abbrev pub open_round : Tok
open_round = Mark OpenRound

abbrev pub close_round : Tok
close_round = Mark CloseRound

abbrev pub dot : Tok
dot = Mark Dot

abbrev pub colon : Tok
colon = Mark Colon

abbrev pub greater : Tok
greater = Mark Greater

abbrev pub open_square : Tok
open_square = Mark OpenSquare

abbrev pub close_square : Tok
close_square = Mark CloseSquare

abbrev pub open_brace : Tok
open_brace = Mark OpenBrace

abbrev pub close_brace : Tok
close_brace = Mark CloseBrace
