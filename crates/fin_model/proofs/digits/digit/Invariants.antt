use Rattle.std.proofs.Common.{◌≡◌, ◌-◌}
use Rattle.model_truth.specs.Numbers.{digit}
use Rattle.fin_model.proofs.digits.digit.Given as goal

abbrev pub invariant-loop-i : goal.invariant-loop-i
invariant-loop-i l = digit l.base l.rest (l.place - l._i) ≡ digit l.base l.number l.place
