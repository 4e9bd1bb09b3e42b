use Rattle.hol_lift.proofs.Marking.{Walked}
use Rattle.hol_lift.proofs.wanting.wanted.Given as goal

abbrev pub invariant-loop-back : goal.invariant-loop-back
invariant-loop-back l = Walked l.lines l.marks l.back
