use Rattle.std.proofs.Common.{◌≡◌, length}
use Rattle.tstp_print.specs.inner.Marking.{AreCitedMarks}
use Rattle.tstp_print.proofs.marking.cited_marks.Given as goal

abbrev pub invariant-loop-n : goal.invariant-loop-n
invariant-loop-n l = record {
  count : length l.marks ≡ l.fn.statements;
  marks : AreCitedMarks l.sources l.lines l.used l.n l.marks;
}
