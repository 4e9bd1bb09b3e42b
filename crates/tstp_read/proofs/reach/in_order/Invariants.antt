use Rattle.std.proofs.Common.{◌≡◌, ◌++◌, length}
use Rattle.std.specs.Ordering.{nat_cmp}
use Rattle.std.specs.Cmp.Lexicographic.{slice_cmp}
use Rattle.std.specs.List.Sorted.{IsStrictlySortedBy}
use Rattle.tstp_read.specs.inner.Table.{names_of}
use Rattle.tstp_read.proofs.reach.in_order.Given as goal

abbrev pub invariant-names : goal.invariant-names
invariant-names l = (names_of l.fn.names ≡ l.out.items ++ names_of l.rest) × IsStrictlySortedBy (slice_cmp nat_cmp) (names_of l.fn.names)

abbrev pub decreases-names : goal.decreases-names
decreases-names l = length l.rest.keys
