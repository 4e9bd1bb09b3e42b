use Rattle.std.proofs.Common.{ℕ, drop}
use Rattle.fo_terms.specs.declared.term.FoTerm.{FoTerm}
use Rattle.fo_unify.specs.Unifier.{Unifies}
use Rattle.fo_unify.specs.Shown.{shown}
use Rattle.fo_unify.proofs.triangle.is_known.Given as goal

-- what solves all pairs solves those that are left
abbrev pub invariant-loop-e : goal.invariant-loop-e
invariant-loop-e l = (v : ℕ → FoTerm) → Unifies v (shown l.known) → Unifies v (shown (drop l.e-index l.known))
