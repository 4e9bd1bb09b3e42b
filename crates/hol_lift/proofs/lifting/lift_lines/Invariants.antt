use Rattle.tagged_terms.specs.Readings.{signs_of}
use Rattle.hol_lift.proofs.Upto.{Upto}
use Rattle.hol_lift.proofs.lifting.lift_lines.Given as goal

abbrev pub invariant-loop-k : goal.invariant-loop-k
invariant-loop-k l = Upto l.initial.log l.log (signs_of l.symbols) l.clauses l.thms l.lines l.marks l.made l.k
