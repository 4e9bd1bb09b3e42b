use Rattle.std.proofs.Common.{◌≡◌}
use Rattle.fin_model.specs.inner.Building.{high_digits}
use Rattle.fin_model.specs.inner.Constants.{one_of}
use Rattle.fin_model.proofs.constants.ones.Given as goal

abbrev pub invariant-loop-i : goal.invariant-loop-i
invariant-loop-i l = l.number ≡ high_digits l.base l.count l.i (one_of l.model l.k)
