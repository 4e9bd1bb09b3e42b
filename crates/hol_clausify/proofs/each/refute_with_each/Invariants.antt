use Rattle.std.proofs.Common.{take}
use Rattle.hyp_sets.specs.Sets.{only}
use Rattle.hol_clausify.specs.inner.Parts.{first_of, second_of, whole_of_both}
use Rattle.hol_clausify.specs.inner.Refuting.{WithEach}
use Rattle.hol_clausify.proofs.Refuted.{Landing}
use Rattle.hol_clausify.proofs.each.refute_with_each.Given as goal

abbrev pub invariant-loop-right : goal.invariant-loop-right
invariant-loop-right l = Landing l.initial.log l.log (WithEach l.initial.log l.log (first_of l.pair l.a) l.left.0 (second_of l.pair l.b) (take l.right-index l.rights) (only (whole_of_both l.pair l.a l.b)) l.initial.out l.out)
