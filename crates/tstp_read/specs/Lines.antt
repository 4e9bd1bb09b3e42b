-- Marked lines of an output: which status it has, and where its proof part stands.
use Rattle.std.specs.Prelude.{ℕ, ◌+◌, ◌-◌, ◌==◌, ◌||◌, ◌&&◌, not, Bool, true, false, List, [], ◌∷◌, length, take, drop, codes, if◌then◌else◌, Option, Some, None, nat_eq}
use Rattle.std.specs.List.{list_any, prefix_len, starts_with}
use Rattle.std.specs.Cmp.Lexicographic.{pointwise}
use Rattle.std.specs.Char.{is_ascii_alphabetic}
use Rattle.tstp_read.specs.declared.lines.Span.{Span}

-- space and tab
abbrev pub is_space : ℕ → Bool
is_space b = (b == 32) || (b == 9)

-- `%` and `#`
abbrev pub is_sign : ℕ → Bool
is_sign b = (b == 37) || (b == 35)

-- a byte that doesn't end a line
abbrev pub is_inside_line : ℕ → Bool
is_inside_line b = not (b == 10)

abbrev pub behind_spaces : List ℕ → List ℕ
behind_spaces text = drop (prefix_len is_space text) text

-- what stands behind one space at least; nothing where none stands
abbrev pub behind_some_spaces : List ℕ → List ℕ
behind_some_spaces [] = []
behind_some_spaces (b ∷ rest) = if is_space b then behind_spaces rest else []

abbrev pub behind_sign : List ℕ → List ℕ
behind_sign [] = []
behind_sign (b ∷ rest) = if is_sign b then behind_some_spaces rest else []

-- what a marked line goes on with, where one begins at the front; else nothing
-- (none of what is asked for below holds an LF or a CR, so the line's end needs no look)
abbrev pub said : List ℕ → List ℕ
said text = behind_sign (behind_spaces text)

abbrev pub goes_on_with : List ℕ → List ℕ → Bool
goes_on_with words text = starts_with nat_eq (said text) words

-- the place of the first line that is marked and goes on so, in a text that begins at the place `n`;
-- `begun` says that its front is a line's beginning
abbrev pub line_with : List ℕ → Bool → ℕ → List ℕ → Option ℕ
line_with words begun n [] = None
line_with words begun n (b ∷ rest) = if begun && goes_on_with words (b ∷ rest) then Some n else line_with words (b == 10) (n + 1) rest

abbrev pub status_words : List ℕ
status_words = codes "SZS status "

abbrev pub start_words : List ℕ
start_words = codes "SZS output start"

abbrev pub end_words : List ℕ
end_words = codes "SZS output end"

abbrev pub letters : List ℕ → List ℕ
letters text = take (prefix_len is_ascii_alphabetic text) text

-- the statuses of a proof
abbrev pub is_proved : List ℕ → Bool
is_proved status = list_any (λ w. pointwise nat_eq status w) (codes "Theorem" ∷ codes "Unsatisfiable" ∷ codes "ContradictoryAxioms" ∷ [])

abbrev pub status_of : List ℕ → Bool
status_of line = is_proved (letters (drop (length status_words) (said line)))

abbrev pub status_at : List ℕ → Option ℕ → Bool
status_at text None = false
status_at text (Some n) = status_of (drop n text)

-- the first marked line with a status has that of a proof
abbrev pub succeeds : List ℕ → Bool
succeeds text = status_at text (line_with status_words true 0 text)

-- the place behind the line that begins here
abbrev pub behind_line : List ℕ → ℕ → ℕ
behind_line text n = n + 1 + prefix_len is_inside_line (drop n text)

abbrev pub ended : ℕ → Option ℕ → Option Span
ended start None = None
ended start (Some n) = Some (record { from = start; to = n })

abbrev pub part_from : List ℕ → Option ℕ → Option Span
part_from text None = None
part_from text (Some n) = let start = behind_line text n in ended start (line_with end_words true start (drop start text))

-- what stands between the first marked line that starts a proof and the first later one that ends one
abbrev pub part_of : List ℕ → Option Span
part_of text = part_from text (line_with start_words true 0 text)

abbrev pub bytes_of : List ℕ → Span → List ℕ
bytes_of text part = take (part.to - part.from) (drop part.from text)
