-- How a theory file is cut into tokens, and where its first bad byte stands.
use Rattle.std.specs.Prelude.{◌≡◌, ℕ, ◌+◌, ◌≤◌, ◌==◌, ◌||◌, not, Bool, false, List, [], ◌∷◌, ◌++◌, length, codes, IsTrue}
use Rattle.std.specs.List.{list_any, list_all}
use Rattle.std.specs.Char.{is_ascii_alphabetic, is_ascii_alphanumeric}
use Rattle.text_kit.specs.declared.cut.Kind.{Kind}
use Rattle.text_kit.specs.declared.cut.Kind.TheVariants as kind
use Rattle.text_kit.specs.declared.cut.Token.{Token}
use Rattle.text_kit.specs.declared.cut.TokenFault.{TokenFault}
use Rattle.text_kit.specs.declared.cut.TokenFault.TheVariants as fault

-- space, tab, CR and LF
abbrev pub is_blank : ℕ → Bool
is_blank b = list_any (λ c. c == b) (codes " \t\r\n")

-- a byte that doesn't end a line
abbrev pub is_inside_line : ℕ → Bool
is_inside_line b = not (b == 10)

-- letters, digits and `_`
abbrev pub is_word_byte : ℕ → Bool
is_word_byte b = is_ascii_alphanumeric b || (b == 95)

-- the marks of one byte
abbrev pub is_short_mark : ℕ → Bool
is_short_mark b = list_any (λ c. c == b) (codes "():;.=~&|!?\\@")

-- the marks
pub data IsMark : List ℕ → Type 0 where
  short : {b : ℕ} → IsTrue (is_short_mark b) → IsMark (b ∷ [])
  arrow : IsMark (codes "->")
  implies : IsMark (codes "==>")

-- such bytes stop here: at the end, or before another byte
abbrev pub StopsAt : (ℕ → Bool) → List ℕ → Type 0
StopsAt p [] = Unit {0}
StopsAt p (b ∷ bs) = p b ≡ false

-- `IsGap piece rest`: the piece, with the rest behind it, is passed over: a blank, or a comment up to its line's end
pub data IsGap : List ℕ → List ℕ → Type 0 where
  blank : {b : ℕ} {rest : List ℕ} → IsTrue (is_blank b) → IsGap (b ∷ []) rest
  comment : {said rest : List ℕ} → IsTrue (list_all is_inside_line said) → StopsAt is_inside_line rest → IsGap (35 ∷ said) rest

-- `Stands kind piece rest`: the piece, with the rest behind it, is a token: a whole word of at most 64 bytes, or the
-- longest mark that stands here
pub data Stands : Kind → List ℕ → List ℕ → Type 0 where
  word : {b : ℕ} {bs rest : List ℕ} → IsTrue (is_ascii_alphabetic b) → IsTrue (list_all is_word_byte bs) → StopsAt is_word_byte rest →
      length (b ∷ bs) ≤ 64 → Stands kind.Word (b ∷ bs) rest
  mark : {m rest : List ℕ} → IsMark m → ((other behind : List ℕ) → IsMark other → other ++ behind ≡ m ++ rest → length other ≤ length m) →
      Stands kind.Mark m rest

-- nothing that is passed over and no token stands at the front of the text
pub record BeginsNothing (text : List ℕ) : Type 0 where
  pub no_gap : (piece rest : List ℕ) → text ≡ piece ++ rest → IsGap piece rest → ⊥
  pub no_token : (k : Kind) (piece rest : List ℕ) → text ≡ piece ++ rest → Stands k piece rest → ⊥

-- the token at a place
abbrev pub token : ℕ → ℕ → Kind → Token
token n m k = record { at = n; len = m; kind = k }

-- `Cuts n text tokens`: the text that begins at the place n is cut into these tokens, and nothing is left
pub data Cuts : ℕ → List ℕ → List Token → Type 0 where
  end : {n : ℕ} → Cuts n [] []
  gap : {n : ℕ} {piece rest : List ℕ} {ts : List Token} → IsGap piece rest → Cuts (n + length piece) rest ts → Cuts n (piece ++ rest) ts
  next : {n : ℕ} {k : Kind} {piece rest : List ℕ} {ts : List Token} → Stands k piece rest → Cuts (n + length piece) rest ts →
      Cuts n (piece ++ rest) (token n (length piece) k ∷ ts)

-- `Breaks n text at`: in the text that begins at the place n, the first byte that begins no token stands at the place `at`
pub data Breaks : ℕ → List ℕ → ℕ → Type 0 where
  here : {n b : ℕ} {rest : List ℕ} → BeginsNothing (b ∷ rest) → Breaks n (b ∷ rest) n
  behind_gap : {n at : ℕ} {piece rest : List ℕ} → IsGap piece rest → Breaks (n + length piece) rest at → Breaks n (piece ++ rest) at
  behind_token : {n at : ℕ} {k : Kind} {piece rest : List ℕ} → Stands k piece rest → Breaks (n + length piece) rest at → Breaks n (piece ++ rest) at

-- what a refusal says of the text
abbrev pub IsRefusedAs : List ℕ → TokenFault → Type 0
IsRefusedAs text (fault.BadByte at) = Breaks 0 text at
IsRefusedAs text fault.NoMemory = Unit {0}

-- a token stands within a text of this length, and holds a byte at least
pub record IsWithin (len : ℕ) (t : Token) : Type 0 where
  pub some : 1 ≤ t.len
  pub inside : t.at + t.len ≤ len

-- the tokens of a text, or the place of its bad byte
pub data Cut : Type 0 where
  Into : List Token → Cut
  BadAt : ℕ → Cut

abbrev pub IsCut : ℕ → List ℕ → Cut → Type 0
IsCut n text (Into ts) = Cuts n text ts
IsCut n text (BadAt at) = Breaks n text at

abbrev pub HasAnswer : ℕ → List ℕ → Type 0
HasAnswer n text = (a : Cut) × IsCut n text a
