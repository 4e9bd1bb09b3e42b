-- What the parts of the walk that looks at sizes alone answer.
use Rattle.std.specs.Prelude.{◌≡◌, ℕ, Bool, true, false, not, List, Result, Ok, Err}
use Rattle.hol_terms.specs.declared.ty.Ty.{Ty}
use Rattle.hol_terms.specs.declared.term.Term.{Term}
use Rattle.lambda_lift.specs.declared.table.Aux.{Aux}
use Rattle.lambda_lift.specs.declared.lifting.Lifted.{Lifted}
use Rattle.lambda_lift.specs.Lifting.{Outcome}
use Rattle.formula_clauses.specs.declared.fault.ClauseFault.{ClauseFault}
use Rattle.formula_clauses.specs.declared.fault.ClauseFault.TheVariants.{TooLarge, NoMemory}
use Rattle.hol_formulas.specs.declared.formula.Junction.{Junction}
use Rattle.hol_formulas.specs.declared.formula.Junction.TheVariants as junctions
use Rattle.formula_clauses.specs.declared.choosing.Opened.{Opened}
use Rattle.formula_clauses.specs.Choices.{Variable, variables, choice}
use Rattle.formula_clauses.specs.Sizes.{is_small}
use Rattle.formula_clauses.specs.Walks.{Progress, Walked, Walk, Pass}
use Rattle.formula_clauses.specs.Walks as walks

abbrev pub progress : ℕ → List Aux → Progress
progress next table = record { next = next; table = table }

-- the walk has come to this progress without a large closed term, or it makes a large one
abbrev pub Measured : Walked → Result ℕ ClauseFault → List Aux → Type 0
Measured w (Ok next) table = (w.after ≡ progress next table) × (w.small ≡ true)
Measured w (Err TooLarge) table = w.small ≡ false
Measured w (Err NoMemory) table = Unit {0}

-- a quantifier's variable has got this term, and the walk has come to this progress
abbrev pub IsOpened : walks.Opened → Opened → List Aux → Type 0
IsOpened o r table = (o.value ≡ r.value) × (o.after ≡ progress r.next table)

-- the same for the term put for a quantifier's variable
abbrev pub Opens : walks.Opened → Result Opened ClauseFault → List Aux → Type 0
Opens o (Ok r) table = (o.value ≡ r.value) × (o.after ≡ progress r.next table) × (o.small ≡ true)
Opens o (Err TooLarge) table = o.small ≡ false
Opens o (Err NoMemory) table = Unit {0}

-- the variables of a property whose closed term is small
abbrev pub SmallVariables : List Aux → Ty → Term → Result (List Variable) ClauseFault → Type 0
SmallVariables table a f (Ok vs) = (vs ≡ variables f) × (is_small (choice table a f) ≡ true)
SmallVariables table a f (Err TooLarge) = is_small (choice table a f) ≡ false
SmallVariables table a f (Err NoMemory) = Unit {0}

-- what lifting has given, with the table behind it
abbrev pub outcome : Lifted → List Aux → Outcome
outcome l table = record { body = l.body; equations = l.equations; table = table }

-- the sign with which the left side is met first
abbrev pub first_sign : Junction → Bool → Bool
first_sign junctions.And s = s
first_sign junctions.Or s = s
first_sign junctions.Imp s = not s
first_sign junctions.Iff s = not s

abbrev pub is_iff : Junction → Bool
is_iff junctions.Iff = true
is_iff _ = false

-- each clause of the left side is joined with each of the right one
abbrev pub is_product : Junction → Bool → Bool
is_product junctions.And s = not s
is_product junctions.Or s = s
is_product junctions.Imp s = s
is_product junctions.Iff s = s
