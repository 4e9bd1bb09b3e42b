-- The walk that makes clauses, over a formula of the kernel: a formula's connectives tell the way, and each place is a term without auxiliary constants.
use Rattle.std.specs.Prelude.{ℕ, ◌+◌, Bool, true, false, not, if◌then◌else◌}
use Rattle.hol_terms.specs.declared.ty.Ty.{Ty}
use Rattle.hol_terms.specs.declared.term.Term.{Term, roll-Term}
use Rattle.hol_terms.specs.declared.term.Term.TheOpen.{Term-F}
use Rattle.hol_terms.specs.Substitution.{instantiated}
use Rattle.kernel_rules.specs.Connectives.{chosen, left_of, right_of, body_of}
use Rattle.hol_formulas.specs.declared.formula.Junction.{Junction}
use Rattle.hol_formulas.specs.declared.formula.Junction.TheVariants as junctions
use Rattle.hol_formulas.specs.declared.formula.Quantifier.{Quantifier}
use Rattle.hol_formulas.specs.declared.formula.Formula.{Formula}
use Rattle.hol_formulas.specs.declared.formula.Formula.TheOpen.{Formula-F}
use Rattle.hol_formulas.specs.declared.formula.Formula.TheFolds.{fold-Formula}
use Rattle.formula_clauses.specs.Choices.{variables, closed_over, applied_to}
use Rattle.formula_clauses.specs.Walks.{Clauses, joined, appended, truth, literal, is_universal, property}

-- the number of the next variable behind the walk, and the clauses
pub record Refuted : Type 0 where
  pub next : ℕ
  pub clauses : Clauses

abbrev pub Pass : Type 0
Pass = ℕ → Refuted

-- from a sign (true is positive), the term at the place, and the number of the next variable
abbrev pub Walk : Type 0
Walk = Bool → Term → Pass

abbrev pub leaf : Clauses → Pass
leaf cs n = record { next = n; clauses = cs }

abbrev pub both : (Clauses → Clauses → Clauses) → Pass → Pass → Pass
both make x y n = let l = x n in let r = y l.next in record { next = r.next; clauses = make l.clauses r.clauses }

abbrev pub junction_pass : Junction → Walk → Walk → Bool → Term → Term → Pass
junction_pass junctions.And a b s t u = both (if s then appended else joined) (a s t) (b s u)
junction_pass junctions.Or a b s t u = both (if s then joined else appended) (a s t) (b s u)
junction_pass junctions.Imp a b s t u = both (if s then joined else appended) (a (not s) t) (b s u)
junction_pass junctions.Iff a b s t u = both appended (both joined (a (not s) t) (b true u)) (both joined (a s t) (b false u))

-- a value of the type that has the property, made of closed parts: the property's closed term, applied to its variables
abbrev pub chosen_value : Ty → Term → Term
chosen_value a f = applied_to (closed_over (variables f) (chosen a f)) (variables f)

-- the value put for a quantifier's variable, the body being `t`
abbrev pub value : Quantifier → Ty → Bool → Term → ℕ → Term
value q a s t n = if is_universal q s then roll-Term (Term-F.Free n a) else chosen_value a (property q a t)

abbrev pub next_behind : Quantifier → Bool → ℕ → ℕ
next_behind q s n = if is_universal q s then n + 1 else n

-- the body of a quantified formula
abbrev pub under_quantifier : Term → Term
under_quantifier t = body_of (right_of t)

-- the part for the value
abbrev pub quantified_pass : Quantifier → Ty → Walk → Bool → Term → Pass
quantified_pass q a b s body n = b s (instantiated body (value q a s body n)) (next_behind q s n)

abbrev pub refuted_step : Formula-F Walk → Walk
refuted_step Formula-F.True s t = leaf (truth s)
refuted_step Formula-F.False s t = leaf (truth (not s))
refuted_step (Formula-F.Atom u) s t = leaf (literal s t)
refuted_step (Formula-F.Not a) s t = a (not s) (right_of t)
refuted_step (Formula-F.Two j a b) s t = junction_pass j a b s (left_of t) (right_of t)
refuted_step (Formula-F.Quantified q a u b) s t = quantified_pass q a b s (under_quantifier t)

-- the clauses of a place, each refuted where the place holds (positive), or fails
unfoldable pub refuted : Formula → Walk
refuted = fold-Formula Walk refuted_step
