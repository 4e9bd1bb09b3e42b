-- One-sided matching.
use Rattle.std.specs.Prelude.{◌≡◌, ℕ, Bool, true, false, List, [], ◌∷◌, map, Option, Some, None, is_some, ◌||◌}
use Rattle.fo_terms.specs.declared.term.FoTerm.{FoTerm}
use Rattle.fo_unify.specs.declared.subst.Bind.{Bind}
use Rattle.fo_unify.specs.declared.subst.Subst.{Subst}
use Rattle.fo_terms.specs.Substitution.{put, occurs_in, occurs_in_any}
use Rattle.fo_unify.specs.Lookup.{lookup, term_of}

-- the list binds each of these variables to its term
abbrev pub Holds : List Bind → List Bind → Type 0
Holds binds [] = Unit {0}
Holds binds (b ∷ bs) = (lookup binds b.var ≡ Some b.term) × Holds binds bs

-- no variable is bound twice to different terms
abbrev pub Unique : List Bind → Type 0
Unique binds = Holds binds binds

-- the substitution gives each variable its bound term
abbrev pub Fits : (ℕ → FoTerm) → List Bind → Type 0
Fits v [] = Unit {0}
Fits v (b ∷ bs) = (v b.var ≡ b.term) × Fits v bs

-- what stands in `has` is bound besides, and the substitutions that fit are those that fitted and have P
abbrev pub Adds : ((ℕ → FoTerm) → Type 0) → (ℕ → Bool) → List Bind → List Bind → Bool → Type 0
Adds P has old new true = Unique new × ((v : ℕ → FoTerm) → (Fits v new → Fits v old × P v) × (Fits v old × P v → Fits v new))
    × ((x : ℕ) → is_some (lookup new x) ≡ (is_some (lookup old x) || has x))
Adds P has old new false = (v : ℕ → FoTerm) → Fits v old → P v → ⊥

abbrev pub Matches : FoTerm → FoTerm → List Bind → List Bind → Bool → Type 0
Matches p t old new made = Adds (λ v. put v p ≡ t) (λ x. occurs_in x p) old new made

abbrev pub MatchesAll : List FoTerm → List FoTerm → List Bind → List Bind → Bool → Type 0
MatchesAll ps ts old new made = Adds (λ v. map (put v) ps ≡ ts) (λ x. occurs_in_any x ps) old new made

-- it binds just the pattern's variables, and put through the pattern it gives the term
pub record IsMatch (p t : FoTerm) (binds : List Bind) : Type 0 where
  pub bound : (x : ℕ) → is_some (lookup binds x) ≡ occurs_in x p
  pub made : put (term_of binds) p ≡ t

abbrev pub MatchOf : FoTerm → FoTerm → Option Subst → Type 0
MatchOf p t (Some u) = IsMatch p t u.binds
MatchOf p t None = (v : ℕ → FoTerm) → put v p ≡ t → ⊥
