use Rattle.std.proofs.Common.{◌≡◌, ◌-◌, ◌≤◌, take, drop, reverse, length}
use Rattle.fo_cells.proofs.trees.taken.Given as goal

abbrev pub invariant-loop-terms : goal.invariant-loop-terms
invariant-loop-terms l =
    (length l.args ≤ l.n) × (l.args ≡ take (length l.args) (reverse l.initial.terms)) × (reverse l.terms ≡ drop (length l.args) (reverse l.initial.terms))

abbrev pub decreases-loop-terms : goal.decreases-loop-terms
decreases-loop-terms l = l.n - length l.args
