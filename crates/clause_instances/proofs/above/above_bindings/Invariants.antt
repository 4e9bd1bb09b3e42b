use Rattle.std.proofs.Common.{◌≡◌, take}
use Rattle.clause_instances.specs.inner.Passes.{above_all}
use Rattle.clause_instances.proofs.above.above_bindings.Given as goal

abbrev pub invariant-loop-b : goal.invariant-loop-b
invariant-loop-b l = l.n ≡ above_all (take l.b-index l.bindings)
