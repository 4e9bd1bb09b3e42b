-- The active clauses of one literal, as a tree beside the others.
use Rattle.std.specs.Prelude.{◌≡◌, ℕ, ◌⊎◌, List, [], ◌∷◌, Option, Some, None, slice_get, Contains}
use Rattle.fo_terms.specs.declared.term.FoTerm.{FoTerm}
use Rattle.fo_terms.specs.declared.literal.Literal.{Literal}
use Rattle.fo_terms.specs.declared.clause.Clause.{Clause}
use Rattle.fo_terms.specs.Substitution.{put_literal}
use Rattle.fo_infer.specs.declared.refutation.Line.{Line}
use Rattle.unit_tree.specs.declared.token.Edge.{Edge}
use Rattle.unit_tree.specs.Tree.{Holds}
use Rattle.metis_core.specs.Stock.{clauses}

-- the clause is a line of one of these numbers
abbrev pub IsAmong : List ℕ → List Line → Clause → Type 0
IsAmong numbers lines p = (n : ℕ) × Contains numbers n × (slice_get (clauses lines) n ≡ Some p)

-- where there is no tree nothing is held
abbrev pub HoldsUnit : Option (List (List Edge)) → Literal → Type 0
HoldsUnit None l = ⊥
HoldsUnit (Some tree) l = Holds tree l

-- some unit has an instance among the literals
abbrev pub SubsumesSome : Option (List (List Edge)) → List Literal → Type 0
SubsumesSome units ls = (l : Literal) × HoldsUnit units l × ((v : ℕ → FoTerm) × Contains ls (put_literal v l))

-- the clause is this literal, and the tree holds it
abbrev pub IsUnit : Option (List (List Edge)) → Clause → Type 0
IsUnit units p = (l : Literal) × HoldsUnit units l × (p.literals ≡ l ∷ [])

-- what the tree holds are active clauses, and each other active clause stands among the rest
pub record AreParted (lines : List Line) (active rest : List ℕ) (units : Option (List (List Edge))) : Type 0 where
  pub held : (l : Literal) → HoldsUnit units l → (n : ℕ) × Contains active n × (slice_get (clauses lines) n ≡ Some (record { literals = l ∷ [] }))
  pub others : (n : ℕ) → Contains rest n → Contains active n
  pub every : (n : ℕ) (p : Clause) → Contains active n → slice_get (clauses lines) n ≡ Some p → Contains rest n ⊎ IsUnit units p
