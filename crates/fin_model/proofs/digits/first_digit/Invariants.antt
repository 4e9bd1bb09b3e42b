use Rattle.std.proofs.Common.{◌≢◌, ℕ, ◌<◌, ◌==◌}
use Rattle.model_truth.specs.Numbers.{digit}
use Rattle.fin_model.proofs.digits.first_digit.Given as goal

abbrev pub invariant-loop-x : goal.invariant-loop-x
invariant-loop-x l = (y : ℕ) → y < l.x → (digit 2 l.number y == 1) ≢ l.wanted
