use Rattle.std.proofs.Common.{take}
use Rattle.hyp_sets.specs.Sets.{only}
use Rattle.hol_clausify.specs.inner.Parts.{first_of, second_of, whole_of_both}
use Rattle.hol_clausify.specs.inner.Refuting.{EachWithEach}
use Rattle.hol_clausify.proofs.Refuted.{Landing}
use Rattle.hol_clausify.proofs.each.refute_from_each_with_each.Given as goal

abbrev pub invariant-loop-left : goal.invariant-loop-left
invariant-loop-left l = Landing l.initial.log l.log (EachWithEach l.initial.log l.log (first_of l.pair l.a) (take l.left-index l.lefts) (second_of l.pair l.b) l.rights (only (whole_of_both l.pair l.a l.b)) l.initial.out l.out)
