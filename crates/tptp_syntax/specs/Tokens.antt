-- How a problem's text is cut into tokens, and what its names say.
use Rattle.std.specs.Prelude.{ℕ, zero, suc, ◌+◌, ◌-◌, ◌==◌, ◌||◌, ◌&&◌, not, nat_le, nat_eq, Bool, true, false, List, [], ◌∷◌, ◌++◌, length, take, drop, codes, if◌then◌else◌, Option, Some, None}
use Rattle.std.specs.Option.{option_map}
use Rattle.std.specs.List.{list_any, prefix_len, position_or_len, starts_with}
use Rattle.std.specs.Cmp.Lexicographic.{pointwise}
use Rattle.tptp_syntax.specs.declared.tokens.Quant.TheVariants as quant
use Rattle.tptp_syntax.specs.declared.tokens.Chain.TheVariants as chain
use Rattle.tptp_syntax.specs.declared.tokens.Pair.TheVariants as pair
use Rattle.tptp_syntax.specs.declared.tokens.Tok.{Tok}
use Rattle.tptp_syntax.specs.declared.tokens.Tok.TheVariants as tok
use Rattle.tptp_syntax.specs.declared.lexer.Lexed.{Lexed}
use Rattle.tptp_syntax.specs.declared.front.Front.{Front}
use Rattle.tptp_syntax.specs.declared.front.Front.TheVariants as front

-- space, tab, CR and LF
abbrev pub is_blank : ℕ → Bool
is_blank b = (b == 32) || ((b == 9) || ((b == 13) || (b == 10)))

abbrev pub is_lower : ℕ → Bool
is_lower b = nat_le 97 b && nat_le b 122

abbrev pub is_upper : ℕ → Bool
is_upper b = nat_le 65 b && nat_le b 90

-- letters, digits and `_`
abbrev pub is_word_byte : ℕ → Bool
is_word_byte b = is_lower b || (is_upper b || ((nat_le 48 b && nat_le b 57) || (b == 95)))

-- a comment that begins with `%` ends before LF
abbrev pub is_inside_line : ℕ → Bool
is_inside_line b = not (b == 10)

-- how many bytes stand at the front that belong to a word, and to a line
abbrev pub word_len : List ℕ → ℕ
word_len bytes = prefix_len is_word_byte bytes

abbrev pub line_len : List ℕ → ℕ
line_len bytes = prefix_len is_inside_line bytes

-- ---- names in quotes, and comments between `/*` and `*/`

abbrev pub more : ℕ → Option ℕ → Option ℕ
more n found = option_map (λ m. n + m) found

-- a byte that may stand in quotes without a backslash: printable, and neither `'` nor a backslash
abbrev pub is_plain : ℕ → Bool
is_plain b = (nat_le 32 b && nat_le b 126) && not ((b == 39) || (b == 92))

-- how many bytes stand before the quote that closes a name; `escaped`: a backslash stands before the front
abbrev pub closing : Bool → List ℕ → Option ℕ
closing escaped [] = None
closing escaped (b ∷ rest) =
    if escaped then (if (b == 39) || (b == 92) then more 1 (closing false rest) else None)
    else (if b == 39 then Some 0
    else (if b == 92 then more 1 (closing true rest)
    else (if is_plain b then more 1 (closing false rest) else None)))

-- what a name in quotes says: a backslash takes the next byte as it is
abbrev pub unescaped : Bool → List ℕ → List ℕ
unescaped escaped [] = []
unescaped escaped (b ∷ rest) = if not escaped && (b == 92) then unescaped true rest else b ∷ unescaped false rest

-- how many bytes stand up to the end of the first `*/`; `starred`: a star stands before the front
abbrev pub comment_end : Bool → List ℕ → Option ℕ
comment_end starred [] = None
comment_end starred (b ∷ rest) = if starred && (b == 47) then Some 1 else more 1 (comment_end (b == 42) rest)

-- ---- what stands at the front of a text

-- the first of these spellings at the front
abbrev pub spelled : List (List ℕ × Tok) → List ℕ → Front
spelled [] text = front.Nothing
spelled (s ∷ ss) text = if starts_with nat_eq text s.0 then front.Sign s.1 (length s.0) else spelled ss text

-- the longer spellings first
abbrev pub signs : List (List ℕ × Tok)
signs =
    (codes "<=>", tok.Pair pair.Iff) ∷ (codes "<~>", tok.Pair pair.Xor) ∷ (codes "<=", tok.Pair pair.Rev) ∷ (codes "=>", tok.Pair pair.Imp) ∷
    (codes "~|", tok.Pair pair.Nor) ∷ (codes "~&", tok.Pair pair.Nand) ∷ (codes "!=", tok.Equal false) ∷ (codes "=", tok.Equal true) ∷
    (codes "!", tok.Quant quant.Each) ∷ (codes "?", tok.Quant quant.One) ∷ (codes "~", tok.Tilde) ∷ (codes "&", tok.Chain chain.And) ∷
    (codes "|", tok.Chain chain.Or) ∷ (codes "(", tok.Open false) ∷ (codes "[", tok.Open true) ∷ (codes ")", tok.Close false) ∷
    (codes "]", tok.Close true) ∷ (codes ",", tok.Comma) ∷ (codes ".", tok.Dot) ∷ (codes ":", tok.Colon) ∷ []

-- a name in quotes isn't empty
abbrev pub quoted : Option ℕ → Front
quoted None = front.Nothing
quoted (Some zero) = front.Nothing
quoted (Some (suc n)) = front.Quoted (suc n + 2)

abbrev pub commented : Option ℕ → Front
commented None = front.Nothing
commented (Some n) = front.Gap (n + 2)

abbrev pub slashed : List ℕ → Front
slashed [] = front.Nothing
slashed (b ∷ rest) = if b == 42 then commented (comment_end false rest) else front.Nothing

-- `$true` and `$false` are the words with `$` that are read
abbrev pub dollar : List ℕ → Front
dollar word =
    if pointwise nat_eq word (codes "true") then front.Sign (tok.Truth true) 5 else if pointwise nat_eq word (codes "false") then front.Sign (tok.Truth false) 6 else front.Nothing

abbrev pub front_of : List ℕ → Front
front_of [] = front.Nothing
front_of (b ∷ rest) =
    if is_lower b then front.Lower (1 + word_len rest)
    else (if is_upper b then front.Upper (1 + word_len rest)
    else (if is_blank b then front.Gap 1
    else (if b == 37 then front.Gap (1 + line_len rest)
    else (if b == 39 then quoted (closing false rest)
    else (if b == 47 then slashed rest
    else (if b == 36 then dollar (take (word_len rest) rest) else spelled signs (b ∷ rest)))))))

-- ---- the whole text

-- the place of a name among names, or their number where it is new; and the names with it
abbrev pub number_of : List ℕ → List (List ℕ) → ℕ
number_of word words = position_or_len (pointwise nat_eq word) words

abbrev pub with_word : List (List ℕ) → List ℕ → List (List ℕ)
with_word words word = if list_any (pointwise nat_eq word) words then words else words ++ word ∷ []

-- one token more in front of the others, with the place of its first byte
abbrev pub with_token : ℕ → Tok → Lexed → Lexed
with_token at t l = record { tokens = t ∷ l.tokens; places = at ∷ l.places; words = l.words }

-- the names with numbers that the grammar knows, in this order
abbrev pub known_words : List (List ℕ)
known_words = codes "fof" ∷ codes "cnf" ∷ codes "conjecture" ∷ []

-- a name is at the front, which says this; `go` cuts what is behind it
abbrev pub named : ℕ → List (List ℕ) → List ℕ → (ℕ → Tok) → (List (List ℕ) → Lexed) → Lexed
named at words word make go = with_token at (make (number_of word words)) (go (with_word words word))

-- what is at the front of `text`, and then what is behind it: `go` cuts what follows the first byte, with so many bytes of it left out
abbrev pub cut_front : List (List ℕ) → ℕ → List ℕ → Front → (List (List ℕ) → ℕ → Lexed) → Lexed
cut_front words at text (front.Gap m) go = go words (m - 1)
cut_front words at text (front.Sign t m) go = with_token at t (go words (m - 1))
cut_front words at text (front.Lower m) go = named at words (take m text) (λ n. tok.Name false n) (λ ws. go ws (m - 1))
cut_front words at text (front.Quoted m) go = named at words (unescaped false (take (m - 2) (drop 1 text))) (λ n. tok.Name true n) (λ ws. go ws (m - 1))
cut_front words at text (front.Upper m) go = named at words (take m text) (λ n. tok.Upper n) (λ ws. go ws (m - 1))
cut_front words at text front.Nothing go = record { tokens = tok.Bad ∷ []; places = at ∷ []; words = words }

-- how a text that begins at the place `at` is cut; its first `inside` bytes belong to what stands before. A byte that begins no token ends it
abbrev pub cut : List (List ℕ) → ℕ → ℕ → List ℕ → Lexed
cut words at inside [] = record { tokens = []; places = []; words = words }
cut words at (suc inside) (b ∷ rest) = cut words (at + 1) inside rest
cut words at zero (b ∷ rest) = cut_front words at (b ∷ rest) (front_of (b ∷ rest)) (λ ws m. cut ws (at + 1) m rest)

abbrev pub lexed : List ℕ → Lexed
lexed text = cut known_words 0 0 text
