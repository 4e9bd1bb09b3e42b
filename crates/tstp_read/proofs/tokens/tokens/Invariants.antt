use Rattle.std.proofs.Common.{◌-◌, length}
use Rattle.tstp_read.proofs.Cutting.{CutSoFar}
use Rattle.tstp_read.proofs.tokens.tokens.Given as goal

abbrev pub invariant-pieces : goal.invariant-pieces
invariant-pieces l = CutSoFar l.text l.at l.found

abbrev pub decreases-pieces : goal.decreases-pieces
decreases-pieces l = length l.text - l.at
