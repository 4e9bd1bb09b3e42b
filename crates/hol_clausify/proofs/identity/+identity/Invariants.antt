use Rattle.std.proofs.Common.{length}
use Rattle.lambda_lift.specs.Equations.{run}
use Rattle.hol_clausify.proofs.identity.+identity.Given as goal

abbrev pub decreases-identity : goal.decreases-identity
decreases-identity l = length (run l.form.now)
