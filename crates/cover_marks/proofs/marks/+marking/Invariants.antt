use Rattle.std.proofs.Common.{◌≡◌, drop, map}
use Rattle.cover_marks.specs.Marks.{arguments_marks, term_marks}
use Rattle.cover_marks.proofs.marks.+marking.Given as goal

-- what is left makes it whole
abbrev pub invariant-of_arguments-loop-t : goal.invariant-of_arguments-loop-t
invariant-of_arguments-loop-t l = arguments_marks l.place l.marks (map term_marks (drop l.t-index l.terms)) ≡ arguments_marks l.fn.first l.fn.start (map term_marks l.terms)
