use Rattle.std.proofs.Common.{◌≡◌, ◌^◌}
use Rattle.fin_model.proofs.sizes.power.Given as goal

abbrev pub invariant-loop-i : goal.invariant-loop-i
invariant-loop-i l = l.total ≡ l.base ^ l._i
