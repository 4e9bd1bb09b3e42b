use Rattle.std.proofs.Common.{take}
use Rattle.hyp_sets.specs.Sets.{only}
use Rattle.hol_clausify.specs.inner.Parts.{part_of, whole_of}
use Rattle.hol_clausify.specs.inner.Refuting.{EachLands}
use Rattle.hol_clausify.proofs.Refuted.{Landing}
use Rattle.hol_clausify.proofs.each.refute_from_each.Given as goal

abbrev pub invariant-loop-th : goal.invariant-loop-th
invariant-loop-th l = Landing l.initial.log l.log (EachLands l.initial.log l.log (part_of l.part) (take l.th-index l.thms) (only (whole_of l.part)) l.initial.out l.out)
