-- The normal form of a clause, and tautologies.
use Rattle.std.specs.Prelude.{ℕ, ◌+◌, Bool, false, not, ◌==◌, ◌&&◌, ◌||◌, if◌then◌else◌, List, [], ◌∷◌, map}
use Rattle.std.specs.List.{list_any, filter, concat}
use Rattle.fo_terms.specs.declared.term.FoTerm.{FoTerm}
use Rattle.fo_terms.specs.declared.term.FoTerm.TheOpen.{FoTerm-F}
use Rattle.fo_terms.specs.declared.term.FoTerm.TheFolds.{fold-FoTerm}
use Rattle.fo_terms.specs.declared.atom.Atom.{Atom}
use Rattle.fo_terms.specs.declared.atom.Atom.TheVariants.{Holds, Eq}
use Rattle.fo_terms.specs.declared.literal.Literal.{Literal}
use Rattle.fo_terms.specs.Same.{is_term, is_literal}
use Rattle.fo_terms.specs.Substitution.{var, put_literals}

-- an equation `t = t`
abbrev pub is_identity : Atom → Bool
is_identity (Holds t) = false
is_identity (Eq s t) = is_term s t

-- a literal `~(t = t)`, which never holds
abbrev pub is_refuted : Literal → Bool
is_refuted l = not l.positive && is_identity l.atom

-- of equal items the first stays
abbrev pub firsts : {X : Type 0} → (X → X → Bool) → List X → List X
firsts same [] = []
firsts same (x ∷ xs) = x ∷ filter (λ y. not (same x y)) (firsts same xs)

-- the literals that a normal form keeps
abbrev pub lasting : List Literal → List Literal
lasting ls = firsts is_literal (filter (λ l. not (is_refuted l)) ls)

abbrev pub variables_step : FoTerm-F (List ℕ) → List ℕ
variables_step (FoTerm-F.Var x) = x ∷ []
variables_step (FoTerm-F.Fun f args) = concat args

-- the variables in reading order, as often as they stand there
abbrev pub variables_of : FoTerm → List ℕ
variables_of = fold-FoTerm (List ℕ) variables_step

abbrev pub atom_terms : Atom → List FoTerm
atom_terms (Holds t) = t ∷ []
atom_terms (Eq s t) = s ∷ t ∷ []

abbrev pub literal_variables : Literal → List ℕ
literal_variables l = concat (map variables_of (atom_terms l.atom))

abbrev pub clause_variables : List Literal → List ℕ
clause_variables ls = concat (map literal_variables ls)

-- the first place of a number in a list, or the list's length
abbrev pub place_of : ℕ → List ℕ → ℕ
place_of x [] = 0
place_of x (y ∷ ys) = if x == y then 0 else 1 + place_of x ys

-- each variable becomes its place
abbrev pub numbering : List ℕ → ℕ → FoTerm
numbering seen x = var (place_of x seen)

-- the lasting literals with their variables numbered from 0 by first occurrence
abbrev pub numbered : List Literal → List Literal
numbered ls = put_literals (numbering (firsts ◌==◌ (clause_variables ls))) ls

-- the normal form of a clause with these literals
abbrev pub normal_of : List Literal → List Literal
normal_of ls = numbered (lasting ls)

-- the literal of the other sign
abbrev pub complement : Literal → Literal
complement l = record { positive = not l.positive; atom = l.atom }

-- it holds `t = t`, or a literal and its complement
abbrev pub is_tautology : List Literal → Bool
is_tautology ls = list_any (λ l. (l.positive && is_identity l.atom) || list_any (is_literal (complement l)) ls) ls
