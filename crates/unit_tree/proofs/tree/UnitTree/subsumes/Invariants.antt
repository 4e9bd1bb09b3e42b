use Rattle.unit_tree.proofs.Units.{AreNot}
use Rattle.unit_tree.proofs.tree.UnitTree.subsumes.Given as goal

abbrev pub invariant-loop-i : goal.invariant-loop-i
invariant-loop-i l = AreNot l.self l.c l.i
