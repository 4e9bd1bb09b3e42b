use Rattle.std.proofs.Common.{◌≡◌, take, map}
use Rattle.tagged_terms.specs.Readings.{signs_of}
use Rattle.clause_instances.specs.Images.{image}
use Rattle.clause_instances.specs.Theorems.{binding}
use Rattle.clause_instances.proofs.instancing.bindings.Given as goal

abbrev pub invariant-loop-v : goal.invariant-loop-v
invariant-loop-v l = l.out ≡ map (binding (signs_of l.symbols) (image l.u.by l.u.binds.now l.u.seen.now)) (take l.v-index l.variables)
