-- The walk that makes clauses of a formula.
use Rattle.std.specs.Prelude.{ℕ, ◌+◌, Bool, true, false, not, ◌&&◌, nat_le, if◌then◌else◌, List, [], ◌∷◌, ◌++◌, map, length}
use Rattle.fo_terms.specs.declared.term.FoTerm.{FoTerm}
use Rattle.fo_terms.specs.declared.atom.Atom.{Atom}
use Rattle.fo_terms.specs.declared.literal.Literal.{Literal}
use Rattle.fo_terms.specs.declared.formula.FoFormula.{FoFormula}
use Rattle.fo_terms.specs.declared.formula.FoFormula.TheOpen.{FoFormula-F}
use Rattle.fo_terms.specs.declared.formula.FoFormula.TheFolds.{fold-FoFormula}
use Rattle.fo_terms.specs.Substitution.{var, put_atom}
use Rattle.fol_cnf.specs.declared.progress.Progress.{Progress}
use Rattle.fol_cnf.specs.Scopes.{Scope, put_for, hidden, atom_variables, ascending, chosen_term}

-- ---- lists of clauses

abbrev pub Clauses : Type 0
Clauses = List (List Literal)

-- each clause of the left list with each of the right one, the left one outermost
abbrev pub joined : Clauses → Clauses → Clauses
joined [] ds = []
joined (c ∷ cs) ds = map (λ d. c ++ d) ds ++ joined cs ds

abbrev pub appended : Clauses → Clauses → Clauses
appended cs ds = cs ++ ds

-- no clause where it is true, and the empty clause where it is false
abbrev pub truth : Bool → Clauses
truth b = if b then [] else [] ∷ []

abbrev pub literal : Bool → Atom → Clauses
literal s a = (record { positive = s; atom = a } ∷ []) ∷ []

-- ---- the walk

-- what the walk gives: the numbers of the next variable and of the next new symbol behind it, whether each list of clauses on the way
-- has at most 1,024, and the clauses
pub record Walked : Type 0 where
  pub after : Progress
  pub few : Bool
  pub clauses : Clauses

-- from a sign (true is positive), the terms put for the variables of the quantifiers around, and the next numbers
abbrev pub Pass : Type 0
Pass = Progress → Walked

abbrev pub Walk : Type 0
Walk = Bool → Scope → Pass

-- what is known of a formula: how the walk goes through it, and the variables that occur in it, in reading order
pub record Meaning : Type 0 where
  pub walk : Walk
  pub variables : Scope → List ℕ

abbrev pub leaf : Clauses → Pass
leaf cs p = record { after = p; few = true; clauses = cs }

-- the left pass, then the right one, and one list of the two
abbrev pub both : (Clauses → Clauses → Clauses) → Pass → Pass → Pass
both make x y p =
    let l = x p in
    let r = y l.after in
    let cs = make l.clauses r.clauses in
    record { after = r.after; few = l.few && (r.few && nat_le (length cs) 1024); clauses = cs }

abbrev pub equivalence : Walk → Walk → Walk
equivalence a b s v = both appended (both joined (a (not s) v) (b true v)) (both joined (a s v) (b false v))

-- the term put for a quantifier's variable, and the next numbers behind it
pub record Opened : Type 0 where
  pub value : FoTerm
  pub after : Progress

abbrev pub next_variable : Progress → Opened
next_variable p = record { value = var p.variable; after = record { variable = p.variable + 1; symbol = p.symbol } }

-- the next new symbol, applied to the variables that occur in the quantified formula
abbrev pub next_choice : ℕ → Meaning → Scope → Progress → Opened
next_choice x b v p =
    record { value = chosen_term p.symbol (ascending (b.variables (hidden v x))); after = record { variable = p.variable; symbol = p.symbol + 1 } }

abbrev pub opened : Bool → ℕ → Meaning → Scope → Progress → Opened
opened universal x b v p = if universal then next_variable p else next_choice x b v p

-- the body holds for each value of `x`, or for a chosen one
abbrev pub quantified : Bool → ℕ → Meaning → Walk
quantified universal x b s v p = let o = opened universal x b v p in b.walk s (put_for v x o.value) o.after

abbrev pub joined_variables : Meaning → Meaning → Scope → List ℕ
joined_variables a b v = a.variables v ++ b.variables v

abbrev pub meaning_step : FoFormula-F Meaning → Meaning
meaning_step FoFormula-F.True = record { walk = λ s v. leaf (truth s); variables = λ v. [] }
meaning_step FoFormula-F.False = record { walk = λ s v. leaf (truth (not s)); variables = λ v. [] }
meaning_step (FoFormula-F.Atom t) = record { walk = λ s v. leaf (literal s (put_atom v t)); variables = λ v. atom_variables (put_atom v t) }
meaning_step (FoFormula-F.Not a) = record { walk = λ s v. a.walk (not s) v; variables = a.variables }
meaning_step (FoFormula-F.And a b) = record { walk = λ s v. both (if s then appended else joined) (a.walk s v) (b.walk s v); variables = joined_variables a b }
meaning_step (FoFormula-F.Or a b) = record { walk = λ s v. both (if s then joined else appended) (a.walk s v) (b.walk s v); variables = joined_variables a b }
meaning_step (FoFormula-F.Imp a b) = record { walk = λ s v. both (if s then joined else appended) (a.walk (not s) v) (b.walk s v); variables = joined_variables a b }
meaning_step (FoFormula-F.Iff a b) = record { walk = equivalence a.walk b.walk; variables = joined_variables a b }
meaning_step (FoFormula-F.Each x b) = record { walk = λ s. quantified s x b s; variables = λ v. b.variables (hidden v x) }
meaning_step (FoFormula-F.One x b) = record { walk = λ s. quantified (not s) x b s; variables = λ v. b.variables (hidden v x) }

unfoldable pub meaning : FoFormula → Meaning
meaning = fold-FoFormula Meaning meaning_step

abbrev pub walked : FoFormula → Walk
walked f = (meaning f).walk

abbrev pub occurring : FoFormula → Scope → List ℕ
occurring f = (meaning f).variables
