use Rattle.lambda_lift.specs.Views.{height}
use Rattle.lambda_lift.proofs.walk.+lift_formula.Given as goal

abbrev pub decreases-lift_formula : goal.decreases-lift_formula
decreases-lift_formula l = height l.t.now
