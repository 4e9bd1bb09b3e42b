use Rattle.std.proofs.Common.{◌≡◌, [], ◌∷◌, ◌++◌}
use Rattle.std.specs.Vec.Iter.{into_iter_items}
use Rattle.fol_cnf.specs.Walks.{joined}
use Rattle.fol_cnf.proofs.lists.all_lengthened.Given as goal

abbrev pub invariant-loop-c : goal.invariant-loop-c
invariant-loop-c l = l.out ++ joined (into_iter_items l.c-iterator) (l.d ∷ []) ≡ l.initial.out ++ joined (into_iter_items l.initial.c-iterator) (l.d ∷ [])
