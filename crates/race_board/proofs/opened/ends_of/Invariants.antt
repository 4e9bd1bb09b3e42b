use Rattle.std.proofs.Common.{◌≡◌, ◌+◌, ◌≤◌, ◌++◌, length, map}
use Rattle.std.specs.Prelude.{vec_capacity}
use Rattle.race_board.specs.Boards.{unended}
use Rattle.race_board.proofs.opened.ends_of.Given as goal

abbrev pub invariant-loop-alloc : goal.invariant-loop-alloc
invariant-loop-alloc g l =
    (l.ends.items ++ map unended l.orders.items ≡ map unended l.fn.orders) × (length l.ends.items + length l.orders.items ≤ vec_capacity l.ends)

abbrev pub decreases-loop-alloc : goal.decreases-loop-alloc
decreases-loop-alloc g l = length l.orders.items
