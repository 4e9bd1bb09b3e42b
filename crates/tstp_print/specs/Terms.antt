-- How terms, literals and clauses are written, over the names of the text's symbols.
use Rattle.std.specs.Prelude.{ℕ, if◌then◌else◌, List, [], ◌∷◌, ◌++◌, map, codes, decimal}
use Rattle.std.specs.List.{flat_map}
use Rattle.fo_terms.specs.declared.term.FoTerm.{FoTerm}
use Rattle.fo_terms.specs.declared.term.FoTerm.TheOpen.{FoTerm-F}
use Rattle.fo_terms.specs.declared.term.FoTerm.TheFolds.{fold-FoTerm}
use Rattle.fo_terms.specs.declared.atom.Atom.{Atom}
use Rattle.fo_terms.specs.declared.atom.Atom.TheVariants.{Holds, Eq}
use Rattle.fo_terms.specs.declared.literal.Literal.{Literal}
use Rattle.tstp_print.specs.Names.{symbol_text}

-- texts with the sign between each two
abbrev pub separated : List ℕ → List (List ℕ) → List ℕ
separated sign [] = []
separated sign (t ∷ ts) = t ++ flat_map (λ u. sign ++ u) ts

abbrev pub variable_text : ℕ → List ℕ
variable_text x = codes "X" ++ decimal x

-- the arguments in brackets, where there are some
abbrev pub arguments_text : List (List ℕ) → List ℕ
arguments_text [] = []
arguments_text (t ∷ ts) = codes "(" ++ separated (codes ",") (t ∷ ts) ++ codes ")"

abbrev pub term_step : List (List ℕ) → FoTerm-F (List ℕ) → List ℕ
term_step names (FoTerm-F.Var x) = variable_text x
term_step names (FoTerm-F.Fun f args) = symbol_text names f ++ arguments_text args

abbrev pub term_text : List (List ℕ) → FoTerm → List ℕ
term_text names = fold-FoTerm (List ℕ) (term_step names)

-- an atom as its term alone, or an equation in brackets
abbrev pub atom_text : List (List ℕ) → Atom → List ℕ
atom_text names (Holds t) = term_text names t
atom_text names (Eq s t) = codes "(" ++ term_text names s ++ codes " = " ++ term_text names t ++ codes ")"

abbrev pub literal_text : List (List ℕ) → Literal → List ℕ
literal_text names l = if l.positive then atom_text names l.atom else codes "(~ " ++ atom_text names l.atom ++ codes ")"

-- the literals of a clause in brackets, or that it is false
abbrev pub clause_text : List (List ℕ) → List Literal → List ℕ
clause_text names [] = codes "$false"
clause_text names (l ∷ ls) = codes "(" ++ separated (codes " | ") (map (literal_text names) (l ∷ ls)) ++ codes ")"
