use Rattle.std.proofs.Common.{◌≡◌, drop}
use Rattle.theory_reader.specs.Declaring.{declared_all}
use Rattle.theory_reader.specs.inner.Stages.{so_far, Agrees}
use Rattle.theory_reader.proofs.declare.declare.Given as goal

abbrev pub invariant-loop-d : goal.invariant-loop-d
invariant-loop-d l =
    (declared_all l.text (so_far l.parts) (drop l.d-index l.items) ≡ declared_all l.text (so_far l.fn.parts) l.items) × Agrees l.parts
