-- The types in a chain of quantifiers, the innermost first.
use Rattle.std.specs.Prelude.{List, [], ◌∷◌}
use Rattle.hol_terms.specs.declared.ty.Ty.{Ty}
use Rattle.lambda_lift.specs.declared.scope.Scope.{Scope}
use Rattle.lambda_lift.specs.declared.scope.Scope.TheOpen.{Scope-F}
use Rattle.lambda_lift.specs.declared.scope.Scope.TheFolds.{fold-Scope}

abbrev pub scope_step : Scope-F (List Ty) → List Ty
scope_step Scope-F.Outside = []
scope_step (Scope-F.Under a rest) = a.now ∷ rest.now

abbrev pub scope_types : Scope → List Ty
scope_types = fold-Scope (List Ty) scope_step
