-- Literals of a clause that hang together by their variables.
use Rattle.std.specs.Prelude.{◌≡◌, ℕ, Bool, false, ◌||◌, ◌⊎◌, IsTrue, List, [], ◌∷◌, ◌++◌, map, Option, Some, None}
use Rattle.fo_terms.specs.declared.term.FoTerm.{FoTerm}
use Rattle.fo_terms.specs.declared.atom.Atom.{Atom}
use Rattle.fo_terms.specs.declared.atom.Atom.TheVariants.{Holds, Eq}
use Rattle.fo_terms.specs.declared.literal.Literal.{Literal}
use Rattle.fo_terms.specs.Substitution.{occurs_in}
use Rattle.fo_infer.specs.declared.seeking.Sought.{Sought}
use Rattle.fo_infer.specs.inner.Covering.{Sends}

-- lent literals with the numbers of their partners, as plain literals
abbrev pub literals : List Sought → List Literal
literals ss = map (λ s. s.literal.now) ss

abbrev pub occurs_atom : ℕ → Atom → Bool
occurs_atom x (Holds t) = occurs_in x t
occurs_atom x (Eq s t) = occurs_in x s || occurs_in x t

-- whether the variable stands in the literal
abbrev pub occurs_literal : ℕ → Literal → Bool
occurs_literal x l = occurs_atom x l.atom

-- and in some of the literals
abbrev pub occurs_literals : ℕ → List Literal → Bool
occurs_literals x [] = false
occurs_literals x (l ∷ ls) = occurs_literal x l || occurs_literals x ls

-- no variable of l stands in m
abbrev pub Off : Literal → Literal → Type 0
Off m l = (x : ℕ) → IsTrue (occurs_literal x l) → occurs_literal x m ≡ false

abbrev pub OffAll : List Literal → Literal → Type 0
OffAll [] l = Unit {0}
OffAll (m ∷ ms) l = Off m l × OffAll ms l

-- no variable of the one list's literals stands in the other's
abbrev pub Apart : List Literal → List Literal → Type 0
Apart ms [] = Unit {0}
Apart ms (l ∷ ls) = OffAll ms l × Apart ms ls

-- the literal goes behind the one list or, where it is apart from that, behind the other
abbrev pub SortsOut : List Literal → List Literal → Literal → List Literal → List Literal → Type 0
SortsOut part others l more rest = ((more ≡ part ++ l ∷ []) × (rest ≡ others)) ⊎ ((more ≡ part) × (rest ≡ others ++ l ∷ []) × OffAll part l)

-- a substitution sends all literals of the first two lists exactly where it sends all of the other two
abbrev pub Splits : List Literal → List Literal → List Literal → List Literal → Type 0
Splits a b p q = (v : ℕ → FoTerm) (d : List Literal) → ((Sends v d a × Sends v d b) → (Sends v d p × Sends v d q)) × ((Sends v d p × Sends v d q) → (Sends v d a × Sends v d b))

-- the same of two lists
abbrev pub SameSends : List Literal → List Literal → Type 0
SameSends a b = (v : ℕ → FoTerm) (d : List Literal) → (Sends v d a → Sends v d b) × (Sends v d b → Sends v d a)

-- some substitution sends each literal to one of d's
abbrev pub Sendable : List Literal → List Literal → Type 0
Sendable d ls = (v : ℕ → FoTerm) × Sends v d ls

-- what a count of partners comes to: a literal without any can't be sent
abbrev pub Sought_in : List Literal → List Literal → Option (List Sought) → Type 0
Sought_in c d (Some found) = literals found ≡ c
Sought_in c d None = (v : ℕ → FoTerm) → Sends v d c → ⊥
