use Rattle.std.proofs.Common.{ℕ, ◌<◌}
use Rattle.theory_print.specs.Names.{beginning}
use Rattle.theory_print.proofs.FirstFree.{In}
use Rattle.theory_print.proofs.fresh.first_free.Given as goal

abbrev pub invariant-loop-number : goal.invariant-loop-number
invariant-loop-number l = (j : ℕ) → j < l.number → In (beginning j) l.set
