use Rattle.std.proofs.Common.{take}
use Rattle.kernel_rules.specs.Derivations.{leaves}
use Rattle.sledge_engine.specs.inner.Marks.{Marks}
use Rattle.sledge_engine.proofs.used.marked.Given as goal

abbrev pub invariant-loop-step : goal.invariant-loop-step
invariant-loop-step l = Marks l.count (leaves (take l.step-index l.steps)) l.marks
