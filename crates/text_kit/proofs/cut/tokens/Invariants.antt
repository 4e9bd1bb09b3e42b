use Rattle.std.proofs.Common.{◌-◌, length}
use Rattle.text_kit.proofs.Cutting.{SoFar}
use Rattle.text_kit.proofs.cut.tokens.Given as goal

abbrev pub invariant-pieces : goal.invariant-pieces
invariant-pieces l = SoFar l.text l.at l.found

abbrev pub decreases-pieces : goal.decreases-pieces
decreases-pieces l = length l.text - l.at
