use Rattle.std.proofs.Common.{◌≤◌, length}
use Rattle.child_launcher.proofs.feed.pour.Given as goal

abbrev pub invariant-writes : goal.invariant-writes
invariant-writes l = l.put ≤ length l.text
