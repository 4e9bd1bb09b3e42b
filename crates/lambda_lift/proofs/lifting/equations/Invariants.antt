use Rattle.std.proofs.Common.{◌≡◌, ◌-◌, ◌^◌}
use Rattle.lambda_lift.specs.Lifting.{equated}
use Rattle.lambda_lift.specs.Views.{stage}
use Rattle.lambda_lift.proofs.Rounds.{listed}
use Rattle.lambda_lift.proofs.lifting.equations.Given as goal

abbrev pub invariant-loop-at : goal.invariant-loop-at
invariant-loop-at l = equated l.sig (2 ^ 64 - 1) 0 (stage l.initial.table l.initial.met) ≡ listed l.out (equated l.sig (2 ^ 64 - 1 - l.at) l.at (stage l.table l.met))
