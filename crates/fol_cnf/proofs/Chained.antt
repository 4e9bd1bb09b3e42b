-- The terms in a chain of quantifiers.
use Rattle.std.proofs.Common.{◌≡◌, ℕ, rules, Bor}
use Rattle.fo_terms.specs.declared.term.FoTerm.{FoTerm}
use Rattle.fo_terms.specs.Substitution.{var}
use Rattle.fol_cnf.specs.declared.scope.Scope as scope
use Rattle.fol_cnf.specs.declared.scope.Scope.{Scope}
use Rattle.fol_cnf.specs.declared.scope.Scope.TheFolds.{the_lemmas}
use Rattle.fol_cnf.specs.Scopes.{put_for}
use Rattle.fol_cnf.specs.inner.Chains.{chained}

pub chained_under : (x : ℕ) (t : Bor FoTerm) (rest : Bor Scope) → chained (scope.Under x t rest) ≡ put_for (chained rest.now) x t.now
chained_under x t rest = search (rules, the_lemmas)

pub chained_outside : chained scope.Outside ≡ var
chained_outside = search (rules, the_lemmas)
