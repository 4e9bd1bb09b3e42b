use Rattle.std.proofs.Common.{◌≡◌, take}
use Rattle.fo_infer.specs.inner.Components.{literals}
use Rattle.fo_infer.proofs.seeking.seek.Given as goal

abbrev pub invariant-loop-l : goal.invariant-loop-l
invariant-loop-l l = literals l.found ≡ take l.l-index l.c
