use Rattle.std.proofs.Common.{◌≡◌, take, map}
use Rattle.clause_instances.specs.inner.Passes.{moved}
use Rattle.clause_instances.proofs.at_once.all_moved.Given as goal

abbrev pub invariant-loop-b : goal.invariant-loop-b
invariant-loop-b l = l.out ≡ map (moved l.by) (take l.b-index l.bindings)
