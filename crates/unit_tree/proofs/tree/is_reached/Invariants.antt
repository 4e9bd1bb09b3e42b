use Rattle.unit_tree.proofs.Follows.{AreNoneOf}
use Rattle.unit_tree.proofs.tree.is_reached.Given as goal

abbrev pub invariant-loop-edge : goal.invariant-loop-edge
invariant-loop-edge l = AreNoneOf l.nodes l.positive l.equation l.cells l.edge-index
