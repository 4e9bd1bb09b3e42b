-- How a search for a subsuming substitution goes, under the bindings made so far.
use Rattle.std.specs.Prelude.{◌≡◌, ℕ, Bool, true, false, List, [], ◌∷◌, Contains}
use Rattle.fo_terms.specs.declared.term.FoTerm.{FoTerm}
use Rattle.fo_terms.specs.declared.literal.Literal.{Literal}
use Rattle.fo_terms.specs.Substitution.{put_literal}
use Rattle.fo_unify.specs.declared.subst.Bind.{Bind}
use Rattle.fo_unify.specs.Match.{Unique, Fits}

-- the substitutions that fit the new bindings are those that fitted the old ones and have P; or none that fitted has it
abbrev pub Narrows : ((ℕ → FoTerm) → Type 0) → List Bind → List Bind → Bool → Type 0
Narrows P old new true = Unique new × ((v : ℕ → FoTerm) → (Fits v new → Fits v old × P v) × (Fits v old × P v → Fits v new))
Narrows P old new false = (v : ℕ → FoTerm) → Fits v old → P v → ⊥

-- each literal is sent to one of d's
abbrev pub Sends : (ℕ → FoTerm) → List Literal → List Literal → Type 0
Sends v d [] = Unit {0}
Sends v d (l ∷ ls) = Contains d (put_literal v l) × Sends v d ls

-- a substitution that fits the bindings does so
abbrev pub Coverable : List Bind → List Literal → List Literal → Type 0
Coverable binds d ls = (v : ℕ → FoTerm) × Fits v binds × Sends v d ls

abbrev pub Covers : List Bind → List Literal → List Literal → Bool → Type 0
Covers binds d ls true = Coverable binds d ls
Covers binds d ls false = Coverable binds d ls → ⊥

-- the same, with the first of the literals sent to m
abbrev pub CoverableBy : List Bind → List Literal → Literal → List Literal → Type 0
CoverableBy binds d m [] = ⊥
CoverableBy binds d m (l ∷ ls) = (v : ℕ → FoTerm) × Fits v binds × (put_literal v l ≡ m) × Sends v d ls

abbrev pub CoversBy : List Bind → List Literal → Literal → List Literal → Bool → Type 0
CoversBy binds d m ls true = CoverableBy binds d m ls
CoversBy binds d m ls false = CoverableBy binds d m ls → ⊥
