use Rattle.std.proofs.Common.{◌≡◌, [], ◌∷◌, ◌++◌}
use Rattle.std.specs.Vec.Iter.{into_iter_items}
use Rattle.fol_cnf.specs.Walks.{joined}
use Rattle.fol_cnf.proofs.lists.all_preceded.Given as goal

abbrev pub invariant-loop-d : goal.invariant-loop-d
invariant-loop-d l = l.out ++ joined (l.c ∷ []) (into_iter_items l.d-iterator) ≡ l.initial.out ++ joined (l.c ∷ []) (into_iter_items l.initial.d-iterator)
