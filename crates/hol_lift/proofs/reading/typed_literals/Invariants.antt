use Rattle.std.proofs.Common.{◌≡◌, take}
use Rattle.tagged_terms.specs.Readings.{signs_of}
use Rattle.clause_instances.specs.Theorems.{clause_of}
use Rattle.hol_lift.proofs.reading.typed_literals.Given as goal

abbrev pub invariant-loop-l : goal.invariant-loop-l
invariant-loop-l l = l.out ≡ clause_of (signs_of l.symbols) (take l.l-index l.literals)
