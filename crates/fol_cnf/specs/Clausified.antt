-- The clauses of a problem's statements.
use Rattle.std.specs.Prelude.{◌≡◌, ℕ, ◌+◌, Bool, true, false, not, ◌&&◌, nat_le, List, [], ◌∷◌, ◌++◌, map, length, Result, Ok, Err}
use Rattle.std.specs.List.{list_all}
use Rattle.fo_terms.specs.declared.formula.FoFormula.{FoFormula}
use Rattle.fo_terms.specs.Substitution.{var}
use Rattle.tptp_syntax.specs.declared.problem.Statement.{Statement}
use Rattle.tptp_syntax.specs.declared.problem.Problem.{Problem}
use Rattle.fol_cnf.specs.declared.named_clause.NamedClause.{NamedClause}
use Rattle.fol_cnf.specs.declared.fault.CnfFault.{CnfFault}
use Rattle.fol_cnf.specs.declared.fault.CnfFault.TheVariants.{TooLarge, NoMemory}
use Rattle.fol_cnf.specs.Walks.{Clauses, Walked, walked}
use Rattle.fol_cnf.specs.Meetings.{meetings}

-- the walk over a statement's formula, whose new symbols begin with `k`: a conjecture is negated
abbrev pub clausified : FoFormula → Bool → ℕ → Walked
clausified f conjecture k = walked f (not conjecture) var (record { variable = 0; symbol = k })

-- no list on the way has above 1,024 clauses, and no place is met more often than so
abbrev pub fits : FoFormula → Bool → Bool
fits f conjecture = nat_le (meetings f) 1024 && (clausified f conjecture 0).few

abbrev pub statement_fits : Statement → Bool
statement_fits s = fits s.formula s.conjecture

-- clauses with the number of their statement
abbrev pub named : ℕ → Clauses → List NamedClause
named n cs = map (λ c. record { clause = record { literals = c }; statement = n }) cs

-- the clauses of statements from number `n` on, whose new symbols begin with `k`
abbrev pub all_clauses : ℕ → ℕ → List Statement → List NamedClause
all_clauses n k [] = []
all_clauses n k (s ∷ ss) = let w = clausified s.formula s.conjecture k in named n w.clauses ++ all_clauses (n + 1) w.after.symbol ss

-- every statement has few enough clauses
abbrev pub all_fit : Problem → Bool
all_fit p = list_all statement_fits p.statements

-- the clauses of a problem, whose new symbols stand behind its own
abbrev pub clauses_of : Problem → List NamedClause
clauses_of p = all_clauses 0 (length p.names) p.statements

-- all clauses in order where each statement fits; `TooLarge` where one doesn't
abbrev pub Clausifies : Problem → Result (List NamedClause) CnfFault → Type 0
Clausifies p (Ok cs) = (all_fit p ≡ true) × (cs ≡ clauses_of p)
Clausifies p (Err TooLarge) = all_fit p ≡ false
Clausifies p (Err NoMemory) = Unit {0}
