-- The types in a chain of quantifiers.
use Rattle.std.proofs.Common.{◌≡◌, [], ◌∷◌, rules, Bor}
use Rattle.hol_terms.specs.declared.ty.Ty.{Ty}
use Rattle.lambda_lift.specs.declared.scope.Scope.{Scope}
use Rattle.lambda_lift.specs.declared.scope.Scope as scope
use Rattle.lambda_lift.specs.declared.scope.Scope.TheFolds.{the_lemmas}
use Rattle.lambda_lift.specs.Scopes.{scope_types}

pub scope_under : (a : Bor Ty) (rest : Bor Scope) → scope_types (scope.Under a rest) ≡ a.now ∷ scope_types rest.now
scope_under a rest = search (rules, the_lemmas)

pub scope_outside : scope_types scope.Outside ≡ []
scope_outside = search (rules, the_lemmas)
