-- The terms in a chain of quantifiers, the innermost first.
use Rattle.std.specs.Prelude.{List, [], ◌∷◌, ℕ, ◌-◌, nat_lt, if◌then◌else◌, slice_get, unwrap_or}
use Rattle.hol_terms.specs.declared.term.Term.{Term, roll-Term}
use Rattle.hol_terms.specs.declared.term.Term.TheOpen.{Term-F}
use Rattle.formula_clauses.specs.declared.scope.Scope.{Scope}
use Rattle.formula_clauses.specs.declared.scope.Scope.TheOpen.{Scope-F}
use Rattle.formula_clauses.specs.declared.scope.Scope.TheFolds.{fold-Scope}

abbrev pub scope_step : Scope-F (List Term) → List Term
scope_step Scope-F.Outside = []
scope_step (Scope-F.Under t rest) = t.now ∷ rest.now

abbrev pub scope_terms : Scope → List Term
scope_terms = fold-Scope (List Term) scope_step

-- what stands for index `i` behind `d` binders
abbrev pub put_for : List Term → ℕ → ℕ → Term
put_for e i d = if nat_lt i d then roll-Term (Term-F.Bound i) else unwrap_or (slice_get e (i - d)) (roll-Term (Term-F.Bound i))
