use Rattle.std.proofs.Common.{◌≡◌, drop, reverse, length, ◌≤◌}
use Rattle.fo_cells.specs.inner.Seen.{terms_of}
use Rattle.fo_cells.proofs.trees.read.Given as goal

abbrev pub invariant-loop-left : goal.invariant-loop-left
invariant-loop-left l = (l.left ≤ length l.cells) × (reverse l.terms ≡ terms_of (drop l.left l.cells))

abbrev pub decreases-loop-left : goal.decreases-loop-left
decreases-loop-left l = l.left
