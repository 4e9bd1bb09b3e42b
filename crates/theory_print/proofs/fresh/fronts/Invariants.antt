use Rattle.std.proofs.Common.{take}
use Rattle.theory_print.proofs.FirstFree.{OnlyFronts}
use Rattle.theory_print.proofs.Fronts.{AllHeld}
use Rattle.theory_print.proofs.fresh.fronts.Given as goal

abbrev pub invariant-loop-decl : goal.invariant-loop-decl
invariant-loop-decl l = AllHeld l.set (take l.decl-index l.consts) × OnlyFronts l.set (take l.decl-index l.consts)
