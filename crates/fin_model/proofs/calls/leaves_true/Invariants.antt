use Rattle.std.proofs.Common.{drop}
use Rattle.kernel_rules.specs.Derivations.{leaves}
use Rattle.fin_model.proofs.Telling.{SoFar}
use Rattle.fin_model.proofs.calls.leaves_true.Given as goal

abbrev pub invariant-loop-step : goal.invariant-loop-step
invariant-loop-step l = SoFar l.env l.model l.all (leaves (drop l.step-index l.step-items)) (leaves l.steps)
