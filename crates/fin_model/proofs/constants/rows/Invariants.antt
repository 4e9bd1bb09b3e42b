use Rattle.std.proofs.Common.{◌≡◌}
use Rattle.model_truth.specs.Numbers.{number}
use Rattle.fin_model.specs.inner.Building.{high_digits}
use Rattle.fin_model.specs.inner.Constants.{two_of}
use Rattle.fin_model.proofs.constants.rows.Given as goal

abbrev pub invariant-loop-i : goal.invariant-loop-i
invariant-loop-i l = l.number ≡ high_digits l.rows l.count l.i (λ x. number 2 l.count (two_of l.k x))
