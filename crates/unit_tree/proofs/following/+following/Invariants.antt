use Rattle.std.proofs.Common.{◌+◌, ◌-◌, ◌*◌, length}
use Rattle.unit_tree.proofs.Follows.{AreNone}
use Rattle.unit_tree.proofs.following.+following.Given as goal

abbrev pub invariant-goes_on-loop-edge : goal.invariant-goes_on-loop-edge
invariant-goes_on-loop-edge l = AreNone l.nodes l.at l.cells l.binds l.edge-index

abbrev pub decreases-goes_on : goal.decreases-goes_on
decreases-goes_on l = 3 * (length l.nodes.now - l.at)

abbrev pub decreases-follows : goal.decreases-follows
decreases-follows l = 3 * (length l.nodes.now - l.edge.now.to) + 2

abbrev pub decreases-binds_on : goal.decreases-binds_on
decreases-binds_on l = 3 * (length l.nodes.now - l.at) + 1
