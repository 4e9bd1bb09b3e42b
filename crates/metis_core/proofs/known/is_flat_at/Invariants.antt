use Rattle.std.proofs.Common.{ℕ, ◌<◌, get_or}
use Rattle.metis_core.specs.Stock.{IsLine}
use Rattle.metis_core.proofs.known.is_flat_at.Given as goal

-- no place so far
abbrev pub invariant-loop-n : goal.invariant-loop-n
invariant-loop-n l = (k : ℕ) → k < l.n-index → IsLine l.lines (record { literals = l.c }) (get_or l.places k 0) → ⊥
