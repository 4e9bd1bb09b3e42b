use Rattle.std.proofs.Common.{take}
use Rattle.hol_kernel.specs.Logs.{thm}
use Rattle.hol_clausify.specs.inner.Refuting.{EachLands}
use Rattle.hol_clausify.proofs.Refuted.{Landing}
use Rattle.hol_clausify.proofs.each.cut_from_each.Given as goal

abbrev pub invariant-loop-th : goal.invariant-loop-th
invariant-loop-th l = Landing l.initial.log l.log (EachLands l.initial.log l.log (thm l.initial.log l.part.0).concl (take l.th-index l.thms) (thm l.initial.log l.part.0).hyps l.initial.out l.out)
