-- Most general unifiers of equations between terms.
use Rattle.std.specs.Prelude.{◌≡◌, ◌≢◌, ℕ, false, List, [], ◌∷◌, Option, Some, None, All, AllPairs, map}
use Rattle.fo_terms.specs.declared.term.FoTerm.{FoTerm}
use Rattle.fo_terms.specs.Substitution.{put, occurs_in}
use Rattle.fo_unify.specs.declared.subst.Bind.{Bind}
use Rattle.fo_unify.specs.declared.subst.Subst.{Subst}
use Rattle.fo_unify.specs.Lookup.{term_of}

-- the substitution makes the two terms equal
abbrev pub Equates : (ℕ → FoTerm) → FoTerm → FoTerm → Type 0
Equates v s t = put v s ≡ put v t

-- it makes the two sides of each equation equal
abbrev pub Unifies : (ℕ → FoTerm) → List (FoTerm × FoTerm) → Type 0
Unifies v [] = Unit {0}
Unifies v (e ∷ es) = Equates v e.0 e.1 × Unifies v es

-- in solved form the variables are distinct and stand in none of the terms
pub record IsSolved (binds : List Bind) : Type 0 where
  pub distinct : AllPairs ◌≢◌ (map (λ b. b.var) binds)
  pub apart : All (λ b. All (λ c. occurs_in b.var c.term ≡ false) binds) binds

-- a unifier in solved form, through which each unifier goes
pub record IsMostGeneral (es : List (FoTerm × FoTerm)) (binds : List Bind) : Type 0 where
  pub solved : IsSolved binds
  pub unifies : Unifies (term_of binds) es
  pub general : (v : ℕ → FoTerm) → Unifies v es → (x : ℕ) → v x ≡ put v (term_of binds x)

-- a most general unifier, or there is no unifier
abbrev pub UnifierOf : List (FoTerm × FoTerm) → Option Subst → Type 0
UnifierOf es (Some u) = IsMostGeneral es u.binds
UnifierOf es None = (v : ℕ → FoTerm) → Unifies v es → ⊥
