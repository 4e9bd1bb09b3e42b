-- Which facts and goals of an environment fit: they aren't too large to be made clauses.
use Rattle.std.specs.Prelude.{ℕ, Bool, true, false, List, All, IsTrue, slice_get, Result, Ok, Err}
use Rattle.std.specs.Option.{option_map_or}
use Rattle.hol_terms.specs.declared.env.Env.{Env}
use Rattle.formula_clauses.specs.declared.fault.ClauseFault.{ClauseFault}
use Rattle.formula_clauses.specs.declared.fault.ClauseFault.TheVariants.{TooLarge, NoMemory}
use Rattle.formula_clauses.specs.Fits.{fits}

-- the environment has the fact of this number, and it fits as a fact
abbrev pub fits_at : Env → ℕ → Bool
fits_at env n = option_map_or (λ t. fits env.sig t false) (slice_get env.facts n) false

abbrev pub AllFit : Env → List ℕ → Type 0
AllFit env facts = All (λ n. IsTrue (fits_at env n)) facts

-- the goal fits as a goal
abbrev pub goal_fits : Env → Bool
goal_fits env = fits env.sig env.goal true

-- the facts fit, and so does the goal
pub record CanSearch (env : Env) (facts : List ℕ) : Type 0 where
  pub facts_fit : AllFit env facts
  pub goal_fits_too : IsTrue (goal_fits env)

-- what is made where it can be made; `TooLarge` comes exactly where it can't
abbrev pub MadeIf : {X : Type 0} → Type 0 → (X → Type 0) → Result X ClauseFault → Type 0
MadeIf Fits P (Ok x) = Fits × P x
MadeIf Fits P (Err TooLarge) = Fits → ⊥
MadeIf Fits P (Err NoMemory) = Unit {0}
