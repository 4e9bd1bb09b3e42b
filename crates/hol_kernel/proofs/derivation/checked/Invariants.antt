use Rattle.std.specs.Vec.Iter.{into_iter_items}
use Rattle.hol_kernel.proofs.Walking.{IsWalked}
use Rattle.hol_kernel.proofs.derivation.checked.Given as goal

abbrev pub invariant-loop-step : goal.invariant-loop-step
invariant-loop-step l = IsWalked l.env l.fn.steps l.log (into_iter_items l.step-iterator)
