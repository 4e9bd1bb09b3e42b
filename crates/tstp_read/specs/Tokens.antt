-- How the proof part is cut into tokens, and where its first bad byte stands.
use Rattle.std.specs.Prelude.{◌≡◌, ℕ, ◌≤◌, zero, suc, ◌+◌, ◌-◌, ◌==◌, ◌||◌, ◌&&◌, not, nat_le, Bool, true, false, List, [], ◌∷◌, length, take, drop, codes, map, if◌then◌else◌, Option, Some, None}
use Rattle.std.specs.Option.{option_map}
use Rattle.std.specs.List.{list_any, prefix_len}
use Rattle.std.specs.Char.{is_ascii_alphanumeric}
use Rattle.tstp_read.specs.declared.tokens.Kind.{Kind}
use Rattle.tstp_read.specs.declared.tokens.Kind.TheVariants as kind
use Rattle.tstp_read.specs.declared.tokens.Token.{Token}
use Rattle.tstp_read.specs.declared.tokens.CutFault.{CutFault}
use Rattle.tstp_read.specs.declared.tokens.CutFault.TheVariants as fault
use Rattle.tstp_read.specs.declared.tokens.Front.{Front}
use Rattle.tstp_read.specs.declared.tokens.Front.TheVariants as front
use Rattle.tstp_read.specs.Lines.{is_sign, is_inside_line}

-- space, tab, CR and LF
abbrev pub is_blank : ℕ → Bool
is_blank b = list_any (λ c. c == b) (codes " \t\r\n")

-- letters, digits, `_` and `$`
abbrev pub is_word_byte : ℕ → Bool
is_word_byte b = is_ascii_alphanumeric b || ((b == 95) || (b == 36))

-- `"` and `'`
abbrev pub is_quote : ℕ → Bool
is_quote b = (b == 34) || (b == 39)

abbrev pub is_printable : ℕ → Bool
is_printable b = nat_le 33 b && nat_le b 126

abbrev pub more : ℕ → Option ℕ → Option ℕ
more n found = option_map (λ m. n + m) found

-- how many bytes of this line stand before the quote that closes a name; `escaped`: a backslash stands before the front
abbrev pub closing : ℕ → Bool → List ℕ → Option ℕ
closing quote escaped [] = None
closing quote escaped (b ∷ rest) =
    if b == 10 then None
    else (if escaped then more 1 (closing quote false rest)
    else (if b == quote then Some 0
    else more 1 (closing quote (b == 92) rest)))

-- how many bytes stand up to the end of the first `*/`; `starred`: a star stands before the front
abbrev pub comment_end : Bool → List ℕ → Option ℕ
comment_end starred [] = None
comment_end starred (b ∷ rest) = if starred && (b == 47) then Some 1 else more 1 (comment_end (b == 42) rest)

abbrev pub quoted : Option ℕ → Front
quoted None = front.Nothing
quoted (Some n) = front.Token kind.Quoted (n + 2)

abbrev pub commented : Option ℕ → Front
commented None = front.Nothing
commented (Some n) = front.Gap (n + 2)

abbrev pub slashed : List ℕ → Front
slashed [] = front.Token kind.Mark 1
slashed (b ∷ rest) = if b == 42 then commented (comment_end false rest) else front.Token kind.Mark 1

-- what stands at the front of a text with its number of bytes: a gap (a blank or a comment), a token, or neither,
-- where a byte is of no use, or a quote or a comment isn't closed
abbrev pub front_at : ℕ → List ℕ → Front
front_at b rest =
    if is_word_byte b then front.Token kind.Word (1 + prefix_len is_word_byte rest)
    else (if is_blank b then front.Gap 1
    else (if is_sign b then front.Gap (1 + prefix_len is_inside_line rest)
    else (if is_quote b then quoted (closing b false rest)
    else (if b == 47 then slashed rest
    else (if is_printable b then front.Token kind.Mark 1 else front.Nothing)))))

abbrev pub front_of : List ℕ → Front
front_of [] = front.Nothing
front_of (b ∷ rest) = front_at b rest

-- the tokens of a text, or the place of its first byte that begins neither gap nor token
pub data Cut : Type 0 where
  Into : List Token → Cut
  BadAt : ℕ → Cut

abbrev pub with_token : Token → Cut → Cut
with_token t (Into ts) = Into (t ∷ ts)
with_token t (BadAt at) = BadAt at

-- what is at the front, and then what is behind it; `go` cuts what follows the first byte, with so many bytes of it left out
abbrev pub cut_front : ℕ → Front → (ℕ → Cut) → Cut
cut_front n (front.Gap m) go = go (m - 1)
cut_front n (front.Token k m) go = with_token (record { at = n; len = m; kind = k }) (go (m - 1))
cut_front n front.Nothing go = BadAt n

-- how a text that begins at the place `n` is cut; its first `inside` bytes belong to what stands before
abbrev pub cut : ℕ → ℕ → List ℕ → Cut
cut n inside [] = Into []
cut n (suc inside) (b ∷ rest) = cut (n + 1) inside rest
cut n zero (b ∷ rest) = cut_front n (front_at b rest) (λ m. cut (n + 1) m rest)

-- what a refusal says of the text
abbrev pub IsRefusedAs : List ℕ → CutFault → Type 0
IsRefusedAs text (fault.BadByte at) = cut 0 0 text ≡ BadAt at
IsRefusedAs text fault.NoMemory = Unit {0}

-- the place of a refusal is within a text of this length
abbrev pub IsPlaced : ℕ → CutFault → Type 0
IsPlaced len (fault.BadByte at) = at ≤ len
IsPlaced len fault.NoMemory = Unit {0}

abbrev pub least_len : Kind → ℕ
least_len kind.Quoted = 2
least_len _ = 1

-- a token stands within a text of this length
pub record IsWithin (len : ℕ) (t : Token) : Type 0 where
  pub some : least_len t.kind ≤ t.len
  pub inside : t.at + t.len ≤ len

-- a token as the statements see it: what it is and what it says
pub record Tok : Type 0 where
  pub kind : Kind
  pub said : List ℕ

-- without the backslashes that take the next byte as it is
abbrev pub unescaped : Bool → List ℕ → List ℕ
unescaped escaped [] = []
unescaped escaped (b ∷ rest) = if not escaped && (b == 92) then unescaped true rest else b ∷ unescaped false rest

abbrev pub content : Kind → List ℕ → List ℕ
content kind.Quoted bytes = unescaped false (take (length bytes - 2) (drop 1 bytes))
content k bytes = bytes

abbrev pub token_of : List ℕ → Token → Tok
token_of text t = record { kind = t.kind; said = content t.kind (take t.len (drop t.at text)) }

abbrev pub tokens_of : List ℕ → List Token → List Tok
tokens_of text ts = map (token_of text) ts

-- what stands at the front holds a byte at least, and no more than there are
abbrev pub FrontFits : ℕ → Front → Type 0
FrontFits len (front.Gap m) = (1 ≤ m) × (m ≤ len)
FrontFits len (front.Token k m) = (least_len k ≤ m) × (1 ≤ m) × (m ≤ len)
FrontFits len front.Nothing = Unit {0}
