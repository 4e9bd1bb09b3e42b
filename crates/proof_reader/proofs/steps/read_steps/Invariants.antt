use Rattle.std.proofs.Common.{length}
use Rattle.proof_reader.specs.inner.Parts.{StepsSoFar}
use Rattle.proof_reader.proofs.steps.read_steps.Given as goal

abbrev pub invariant-steps : goal.invariant-steps
invariant-steps l = StepsSoFar l.names l.fn.text l.steps l.rest

abbrev pub decreases-steps : goal.decreases-steps
decreases-steps l = length l.rest
