-- What stands at the front of a text is within it.
use Rattle.std.specs.Prelude.{ℕ, ◌≤◌, ◌-◌, true, false, List, [], ◌∷◌, ◌++◌, take, drop, Option, Some, None}
use Rattle.tptp_syntax.specs.declared.tokens.Tok.{Tok}
use Rattle.tptp_syntax.specs.declared.tokens.Tok.TheVariants as tok
use Rattle.tptp_syntax.specs.declared.lexer.Lexed.{Lexed}
use Rattle.tptp_syntax.specs.Tokens.{unescaped, number_of, with_word}
use Rattle.tptp_syntax.specs.declared.front.Front.{Front}
use Rattle.tptp_syntax.specs.declared.front.Front.TheVariants as front

-- it holds a byte at least (a name in quotes three), and no more than there are
abbrev pub FrontFits : ℕ → Front → Type 0
FrontFits len (front.Gap m) = (1 ≤ m) × (m ≤ len)
FrontFits len (front.Sign t m) = (1 ≤ m) × (m ≤ len)
FrontFits len (front.Lower m) = (1 ≤ m) × (m ≤ len)
FrontFits len (front.Quoted m) = (3 ≤ m) × (m ≤ len)
FrontFits len (front.Upper m) = (1 ≤ m) × (m ≤ len)
FrontFits len front.Nothing = Unit {0}

-- one token more behind the others
abbrev pub pushed : Lexed → ℕ → Tok → List (List ℕ) → Lexed
pushed l at t words = record { tokens = l.tokens ++ t ∷ []; places = l.places ++ at ∷ []; words = words }

-- what is at the front of a text that begins at this place, behind the others
abbrev pub put_front : Lexed → ℕ → List ℕ → Front → Lexed
put_front l at text (front.Gap m) = l
put_front l at text (front.Sign t m) = pushed l at t l.words
put_front l at text (front.Lower m) = let w = take m text in pushed l at (tok.Name false (number_of w l.words)) (with_word l.words w)
put_front l at text (front.Quoted m) = let w = unescaped false (take (m - 2) (drop 1 text)) in pushed l at (tok.Name true (number_of w l.words)) (with_word l.words w)
put_front l at text (front.Upper m) = let w = take m text in pushed l at (tok.Upper (number_of w l.words)) (with_word l.words w)
put_front l at text front.Nothing = pushed l at tok.Bad l.words

abbrev pub front_len : Front → Option ℕ
front_len (front.Gap m) = Some m
front_len (front.Sign t m) = Some m
front_len (front.Lower m) = Some m
front_len (front.Quoted m) = Some m
front_len (front.Upper m) = Some m
front_len front.Nothing = None
