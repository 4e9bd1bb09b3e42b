use Rattle.std.proofs.Common.{length}
use Rattle.proof_reader.proofs.StartPieces.{Passed}
use Rattle.proof_reader.proofs.start.body_of.Given as goal

abbrev pub invariant-lines : goal.invariant-lines
invariant-lines l = Passed l.fn.text l.rest

abbrev pub decreases-lines : goal.decreases-lines
decreases-lines l = length l.rest
