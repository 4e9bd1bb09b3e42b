use Rattle.std.proofs.Common.{◌≡◌}
use Rattle.fin_model.specs.inner.Building.{high_digits}
use Rattle.fin_model.specs.inner.Constants.{two_of}
use Rattle.fin_model.proofs.constants.row.Given as goal

abbrev pub invariant-loop-i : goal.invariant-loop-i
invariant-loop-i l = l.number ≡ high_digits 2 l.count l.i (two_of l.k l.x)
