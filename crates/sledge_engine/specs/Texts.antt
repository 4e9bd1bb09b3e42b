-- The texts of `sledge`, each line with its end.
use Rattle.std.specs.Prelude.{ℕ, ◌≡◌, List, ◌∷◌, ◌++◌, codes, decimal}
use Rattle.std.specs.List.{flat_map}
use Rattle.theory_terms.specs.declared.fault.TheoryKind.{TheoryKind}
use Rattle.theory_terms.specs.declared.fault.TheoryKind.TheVariants as kind
use Rattle.theory_terms.specs.declared.fault.TheoryFault.{TheoryFault}
use Rattle.theory_terms.specs.declared.fault.TheoryFault.TheVariants as fault

-- the reply is this status and this text
abbrev pub Is : ℕ → List ℕ → ℕ → List ℕ → Type 0
Is status text s t = (s ≡ status) × (t ≡ text)

-- a text round a name
abbrev pub around : List ℕ → List ℕ → List ℕ → List ℕ
around before name after = before ++ name ++ after

abbrev pub usage_text : List ℕ
usage_text = codes "fault: usage\n"

abbrev pub memory_text : List ℕ
memory_text = codes "fault: memory\n"

abbrev pub file_text : List ℕ → List ℕ
file_text name = around (codes "fault: file ") name (codes "\n")

abbrev pub long_file_text : List ℕ → List ℕ
long_file_text name = around (codes "fault: file ") name (codes " too long\n")

abbrev pub kind_text : TheoryKind → List ℕ
kind_text kind.Token = codes "token"
kind_text kind.Syntax = codes "syntax"
kind_text kind.TooDeep = codes "too deep"
kind_text kind.TooMany = codes "too many"
kind_text kind.Repeated = codes "repeated"
kind_text kind.Unknown = codes "unknown"
kind_text kind.IllTyped = codes "ill typed"
kind_text kind.NotBool = codes "not bool"

abbrev pub theory_text : ℕ → TheoryKind → List ℕ
theory_text at k = around (codes "fault: theory at ") (decimal at) (around (codes ": ") (kind_text k) (codes "\n"))

-- the text of a fault; want of memory has another one
abbrev pub SaysFault : TheoryFault → List ℕ → Type 0
SaysFault (fault.At at k) text = text ≡ theory_text at k
SaysFault fault.NoMemory text = ⊥

abbrev pub goal_text : List ℕ → List ℕ
goal_text name = around (codes "fault: goal ") name (codes "\n")

abbrev pub large_goal_text : List ℕ → List ℕ
large_goal_text name = around (codes "fault: goal ") name (codes " too large\n")

abbrev pub fact_text : List ℕ → List ℕ
fact_text name = around (codes "fault: fact ") name (codes "\n")

abbrev pub saturated_text : List ℕ
saturated_text = codes "proof: not found (saturated)\n"

abbrev pub spent_text : List ℕ
spent_text = codes "proof: not found (spent)\n"

-- a space and a name, for each
abbrev pub spaced : List (List ℕ) → List ℕ
spaced names = flat_map (λ name. 32 ∷ name) names

abbrev pub metis_text : List (List ℕ) → List ℕ
metis_text names = around (codes "proof: by metis") (spaced names) (codes "\n")

abbrev pub byte_text : ℕ → List ℕ
byte_text at = around (codes "refused: byte ") (decimal at) (codes "\n")

abbrev pub step_text : ℕ → List ℕ
step_text at = around (codes "refused: step ") (decimal at) (codes "\n")

abbrev pub checked_text : List ℕ → List (List ℕ) → List ℕ
checked_text goal names = around (codes "checked: ") goal (around (codes " from") (spaced names) (codes "\n"))
