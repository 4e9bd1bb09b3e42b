use Rattle.std.proofs.Common.{◌≡◌, ◌<◌, drop, length}
use Rattle.lambda_lift.specs.Wholes.{all_of}
use Rattle.lambda_lift.proofs.wholes.all_of.Given as goal

abbrev pub invariant-loop-at : goal.invariant-loop-at
invariant-loop-at l = (l.at < length l.terms) × (l.out ≡ all_of (drop l.at l.terms))

abbrev pub decreases-loop-at : goal.decreases-loop-at
decreases-loop-at l = l.at
