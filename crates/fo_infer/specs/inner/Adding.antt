-- How a walk over rules adds what they give.
use Rattle.std.specs.Prelude.{◌≡◌, ℕ, List, [], ◌∷◌, ◌++◌, Option, Some, None}
use Rattle.fo_terms.specs.declared.clause.Clause.{Clause}
use Rattle.fo_infer.specs.declared.made.Made.{Made}
use Rattle.fo_infer.specs.declared.made.Rule.{Rule}
use Rattle.fo_terms.specs.declared.term.FoTerm.{FoTerm}
use Rattle.fo_terms.specs.declared.atom.Atom.{Atom}
use Rattle.fo_unify.specs.declared.subst.Bind.{Bind}
use Rattle.fo_unify.specs.Unifier.{Unifies, IsMostGeneral}
use Rattle.fo_infer.specs.Inferences.{atom_equations, Listed}

-- the clause that a rule gives, or it gives none
abbrev pub Answered : (Clause → Type 0) → Option Clause → Type 0
Answered gives None = (c : Clause) → gives c → ⊥
Answered gives (Some c) = gives c

-- the entry of an answer
abbrev pub entry : Rule → Option Clause → List Made
entry r None = []
entry r (Some c) = record { clause = c; rule = r } ∷ []

-- what the rules give stands behind what was there
pub record Adds (Gives : Rule → Clause → Type 0) (rs : List Rule) (old new : List Made) : Type 0 where
  pub more : List Made
  pub whole : new ≡ old ++ more
  pub listed : Listed Gives rs more

-- a most general unifier of two atoms of one kind, or there is no unifier
abbrev pub AtomsUnifierOf : Atom → Atom → Option (List Bind) → Type 0
AtomsUnifierOf a b (Some binds) = (es : List (FoTerm × FoTerm)) × (atom_equations a b ≡ Some es) × IsMostGeneral es binds
AtomsUnifierOf a b None = (es : List (FoTerm × FoTerm)) → atom_equations a b ≡ Some es → (v : ℕ → FoTerm) → Unifies v es → ⊥
