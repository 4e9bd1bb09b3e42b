use Rattle.std.proofs.Common.{◌≡◌, ◌≤◌, length}
use Rattle.tstp_print.specs.inner.Marking.{all_marked}
use Rattle.tstp_print.proofs.marking.mark_all.Given as goal

abbrev pub invariant-down : goal.invariant-down
invariant-down l = record {
  within : l.n ≤ length l.lines;
  count : length l.marks ≡ length l.lines;
  marked : all_marked l.lines l.n l.marks ≡ all_marked l.lines (length l.lines) l.initial.marks;
}

abbrev pub decreases-down : goal.decreases-down
decreases-down l = l.n
