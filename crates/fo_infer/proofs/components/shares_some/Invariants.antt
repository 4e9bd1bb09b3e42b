use Rattle.std.proofs.Common.{drop}
use Rattle.fo_infer.specs.inner.Components.{literals, OffAll}
use Rattle.fo_infer.proofs.components.shares_some.Given as goal

abbrev pub invariant-loop-s : goal.invariant-loop-s
invariant-loop-s l = OffAll (literals (drop l.s-index l.part)) l.l → OffAll (literals l.part) l.l
