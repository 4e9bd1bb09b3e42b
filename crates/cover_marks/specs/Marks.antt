-- The marks of a literal, as bits of a number of 64 bits: one for its sign and kind, and one for each symbol at its place.
use Rattle.std.specs.Prelude.{ℕ, ◌+◌, ◌*◌, ◌/◌, ◌%◌, ◌^◌, Bool, if◌then◌else◌, List, [], ◌∷◌, map, bit_or}
use Rattle.fo_terms.specs.declared.term.FoTerm.{FoTerm}
use Rattle.fo_terms.specs.declared.term.FoTerm.TheOpen.{FoTerm-F}
use Rattle.fo_terms.specs.declared.term.FoTerm.TheFolds.{fold-FoTerm}
use Rattle.fo_terms.specs.declared.atom.Atom.{Atom}
use Rattle.fo_terms.specs.declared.atom.Atom.TheVariants.{Holds, Eq}
use Rattle.fo_terms.specs.declared.literal.Literal.{Literal}
use Rattle.fo_terms.specs.declared.clause.Clause.{Clause}

-- a place is a number mixed from the way down to it: the symbols that it passes, and which of their arguments it takes

-- a symbol at a place, which is also the place of its first argument
abbrev pub under : ℕ → ℕ → ℕ
under place f = ((place * 11400714819323198485) % 2 ^ 64 + f) % 2 ^ 64

-- the place of the next argument
abbrev pub next : ℕ → ℕ
next place = (place + 11400714819323198485) % 2 ^ 64

-- the mark of a symbol at a place: one of 60
abbrev pub mark : ℕ → ℕ
mark here = (1 * 2 ^ ((here * 11400714819323198485) % 2 ^ 64 / 2 ^ 32 % 60 + 4)) % 2 ^ 64

-- the marks of arguments, the first of them at this place, with those so far
abbrev pub arguments_marks : ℕ → ℕ → List (ℕ → ℕ) → ℕ
arguments_marks place marks [] = marks
arguments_marks place marks (m ∷ ms) = arguments_marks (next place) (bit_or marks (m place)) ms

abbrev pub marks_step : FoTerm-F (ℕ → ℕ) → ℕ → ℕ
marks_step (FoTerm-F.Var x) place = 0
marks_step (FoTerm-F.Fun f args) place = arguments_marks (under place f) (mark (under place f)) args

-- the marks of a term at a place: those of its symbols, and none for its variables
abbrev pub term_marks : FoTerm → ℕ → ℕ
term_marks = fold-FoTerm (ℕ → ℕ) marks_step

abbrev pub atom_marks : Bool → Atom → ℕ
atom_marks positive (Holds t) = bit_or (if positive then 1 else 2) (term_marks t 1)
atom_marks positive (Eq s t) = bit_or (bit_or (if positive then 4 else 8) (term_marks s 2)) (term_marks t 3)

abbrev pub literal_marks : Literal → ℕ
literal_marks l = atom_marks l.positive l.atom

-- the marks of each literal, in order
abbrev pub clause_marks : Clause → List ℕ
clause_marks c = map literal_marks c.literals
