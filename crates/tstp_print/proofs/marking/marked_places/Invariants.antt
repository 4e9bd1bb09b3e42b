use Rattle.std.proofs.Common.{◌≡◌}
use Rattle.std.specs.List.{filter}
use Rattle.tstp_print.specs.Names.{below}
use Rattle.tstp_print.specs.inner.Marking.{is_marked}
use Rattle.tstp_print.proofs.marking.marked_places.Given as goal

abbrev pub invariant-loop-n : goal.invariant-loop-n
invariant-loop-n l = l.out ≡ filter (is_marked l.marks) (below l.n)
