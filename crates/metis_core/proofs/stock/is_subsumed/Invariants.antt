use Rattle.std.proofs.Common.{◌≡◌, ℕ, ◌<◌, get_or, Some, slice_get}
use Rattle.fo_terms.specs.declared.clause.Clause.{Clause}
use Rattle.fo_infer.specs.Subsumption.{Subsumes}
use Rattle.metis_core.specs.Stock.{clauses}
use Rattle.metis_core.proofs.stock.is_subsumed.Given as goal

-- none of the rest so far
abbrev pub invariant-loop-k : goal.invariant-loop-k
invariant-loop-k l = (j : ℕ) → j < l.k → (p : Clause) → slice_get (clauses l.stock.lines) (get_or l.stock.rest j 0) ≡ Some p → Subsumes p (record { literals = l.c }) → ⊥
