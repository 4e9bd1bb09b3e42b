use Rattle.hol_lift.proofs.Marking.{Begun}
use Rattle.hol_lift.proofs.wanting.last_marked.Given as goal

abbrev pub invariant-loop-i : goal.invariant-loop-i
invariant-loop-i l = Begun l.count l.out l.i
