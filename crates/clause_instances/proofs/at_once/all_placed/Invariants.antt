use Rattle.std.proofs.Common.{◌≡◌, take, map}
use Rattle.clause_instances.specs.inner.Passes.{placed}
use Rattle.clause_instances.proofs.at_once.all_placed.Given as goal

abbrev pub invariant-loop-b : goal.invariant-loop-b
invariant-loop-b l = l.out ≡ map (placed l.by) (take l.b-index l.bindings)
