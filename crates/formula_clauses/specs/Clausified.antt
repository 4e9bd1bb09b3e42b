-- The clauses of a formula over a table.
use Rattle.std.specs.Prelude.{◌≡◌, Bool, true, false, List, Result, Ok, Err}
use Rattle.hol_terms.specs.declared.sig.Sig.{Sig}
use Rattle.hol_terms.specs.declared.term.Term.{Term}
use Rattle.lambda_lift.specs.declared.table.Aux.{Aux}
use Rattle.lambda_lift.specs.Lifting.{lifted}
use Rattle.formula_clauses.specs.declared.clausifying.LiftedClauses.{LiftedClauses}
use Rattle.formula_clauses.specs.declared.fault.ClauseFault.{ClauseFault}
use Rattle.formula_clauses.specs.declared.fault.ClauseFault.TheVariants.{TooLarge, NoMemory}
use Rattle.formula_clauses.specs.Walks.{Clauses}
use Rattle.formula_clauses.specs.Fits.{clausified, fits}

-- the clauses of the formula that was lifted over the table, and the table behind the walk
abbrev pub IsClausified : Sig → List Aux → Term → Bool → Clauses → List Aux → Type 0
IsClausified sig old t goal cs new = let w = clausified goal (lifted sig old t) in (cs ≡ w.clauses) × (new ≡ w.after.table)

-- the clauses where the formula fits; `TooLarge` where it doesn't, and the table as it was
abbrev pub Clausifies : Sig → List Aux → Term → Bool → Result Clauses ClauseFault → List Aux → Type 0
Clausifies sig old t goal (Ok cs) new = (fits sig t goal ≡ true) × IsClausified sig old t goal cs new
Clausifies sig old t goal (Err TooLarge) new = (fits sig t goal ≡ false) × (new ≡ old)
Clausifies sig old t goal (Err NoMemory) new = Unit {0}

-- the lifted formula, and its clauses
pub record IsLiftedClauses (sig : Sig) (old : List Aux) (t : Term) (goal : Bool) (r : LiftedClauses) (new : List Aux) : Type 0 where
  pub body : r.lifted.body ≡ (lifted sig old t).body
  pub equations : r.lifted.equations ≡ (lifted sig old t).equations
  pub clauses : IsClausified sig old t goal r.clauses new

-- the same with the lifted formula
abbrev pub ClausifiesLifted : Sig → List Aux → Term → Bool → Result LiftedClauses ClauseFault → List Aux → Type 0
ClausifiesLifted sig old t goal (Ok r) new = (fits sig t goal ≡ true) × IsLiftedClauses sig old t goal r new
ClausifiesLifted sig old t goal (Err TooLarge) new = (fits sig t goal ≡ false) × (new ≡ old)
ClausifiesLifted sig old t goal (Err NoMemory) new = Unit {0}
