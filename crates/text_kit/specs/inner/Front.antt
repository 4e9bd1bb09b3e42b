-- What stands at the front of a text, as the private cutter tells it.
use Rattle.std.specs.Prelude.{ℕ, ◌+◌, ◌==◌, nat_le, if◌then◌else◌, List, [], ◌∷◌}
use Rattle.std.specs.List.{prefix_len}
use Rattle.std.specs.Char.{is_ascii_alphabetic}
use Rattle.text_kit.specs.declared.cut.Kind.TheVariants as kind
use Rattle.text_kit.specs.declared.cut.Front.{Front}
use Rattle.text_kit.specs.declared.cut.Front.TheVariants as front
use Rattle.text_kit.specs.Tokens.{is_blank, is_inside_line, is_word_byte, is_short_mark}

-- a word of this many bytes, where that isn't too long
abbrev pub word_of : ℕ → Front
word_of n = if nat_le n 64 then front.Token kind.Word n else front.Nothing

-- the longest mark behind `=`
abbrev pub equal_mark : List ℕ → Front
equal_mark (b ∷ c ∷ rest) = if b == 61 then (if c == 62 then front.Token kind.Mark 3 else front.Token kind.Mark 1) else front.Token kind.Mark 1
equal_mark _ = front.Token kind.Mark 1

-- the mark behind `-`
abbrev pub dash_mark : List ℕ → Front
dash_mark [] = front.Nothing
dash_mark (b ∷ rest) = if b == 62 then front.Token kind.Mark 2 else front.Nothing

-- what begins with this byte, before these
abbrev pub front_at : ℕ → List ℕ → Front
front_at b rest =
    if is_ascii_alphabetic b then word_of (1 + prefix_len is_word_byte rest)
    else (if is_blank b then front.Gap 1
    else (if b == 35 then front.Gap (1 + prefix_len is_inside_line rest)
    else (if b == 61 then equal_mark rest
    else (if b == 45 then dash_mark rest
    else (if is_short_mark b then front.Token kind.Mark 1 else front.Nothing)))))

abbrev pub front_of : List ℕ → Front
front_of [] = front.Nothing
front_of (b ∷ rest) = front_at b rest
