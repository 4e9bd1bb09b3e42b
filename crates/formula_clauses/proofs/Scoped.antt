-- The terms in a chain of quantifiers.
use Rattle.std.proofs.Common.{◌≡◌, [], ◌∷◌, rules, Bor}
use Rattle.hol_terms.specs.declared.term.Term.{Term}
use Rattle.formula_clauses.specs.declared.scope.Scope.{Scope}
use Rattle.formula_clauses.specs.declared.scope.Scope as scope
use Rattle.formula_clauses.specs.declared.scope.Scope.TheFolds.{the_lemmas}
use Rattle.formula_clauses.specs.inner.Scopes.{scope_terms}

pub scope_under : (a : Bor Term) (rest : Bor Scope) → scope_terms (scope.Under a rest) ≡ a.now ∷ scope_terms rest.now
scope_under a rest = search (rules, the_lemmas)

pub scope_outside : scope_terms scope.Outside ≡ []
scope_outside = search (rules, the_lemmas)
