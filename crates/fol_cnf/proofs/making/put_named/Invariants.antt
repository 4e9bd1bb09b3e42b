use Rattle.std.proofs.Common.{◌≡◌, ◌++◌}
use Rattle.std.specs.Vec.Iter.{into_iter_items}
use Rattle.fol_cnf.specs.Clausified.{named}
use Rattle.fol_cnf.proofs.making.put_named.Given as goal

abbrev pub invariant-loop-literals : goal.invariant-loop-literals
invariant-loop-literals l = l.out ++ named l.statement (into_iter_items l.literals-iterator) ≡ l.initial.out ++ named l.statement (into_iter_items l.initial.literals-iterator)
