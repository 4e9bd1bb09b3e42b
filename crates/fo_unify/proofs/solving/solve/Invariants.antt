use Rattle.std.proofs.Common.{◌-◌, ◌^◌, ℕ, length}
use Rattle.fo_terms.specs.declared.term.FoTerm.{FoTerm}
use Rattle.fo_unify.specs.Unifier.{Unifies}
use Rattle.fo_unify.specs.inner.Triangle.{Good, Solves}
use Rattle.fo_unify.specs.Shown.{as_binds, shown}
use Rattle.fo_unify.proofs.RuleForm.{Reaches}
use Rattle.fo_unify.proofs.solving.solve.Given as goal

abbrev pub invariant-solving : goal.invariant-solving
invariant-solving l = record {
  good : Good (as_binds l.binds);
  keeps : (v : ℕ → FoTerm) → Unifies v (shown l.fn.work) → Solves v (as_binds l.binds) × Unifies v (shown l.work);
  back : (v : ℕ → FoTerm) → Solves v (as_binds l.binds) → Unifies v (shown l.work) → Unifies v (shown l.fn.work);
  reaches : Reaches (shown l.fn.work) (as_binds l.binds) (shown l.work);
}

abbrev pub decreases-solving : goal.decreases-solving
decreases-solving l = 2 ^ 64 - length l.binds
