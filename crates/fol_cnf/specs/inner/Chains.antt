-- The terms in a chain of quantifiers.
use Rattle.fo_terms.specs.Substitution.{var}
use Rattle.fol_cnf.specs.declared.scope.Scope as chain
use Rattle.fol_cnf.specs.declared.scope.Scope.TheOpen.{Scope-F}
use Rattle.fol_cnf.specs.declared.scope.Scope.TheFolds.{fold-Scope}
use Rattle.fol_cnf.specs.Scopes.{Scope, put_for}

abbrev pub chained_step : Scope-F Scope → Scope
chained_step Scope-F.Outside = var
chained_step (Scope-F.Under x t rest) = put_for rest.now x t.now

abbrev pub chained : chain.Scope → Scope
chained = fold-Scope Scope chained_step
