use Rattle.std.proofs.Common.{◌≡◌, ◌++◌, map}
use Rattle.std.specs.Vec.Iter.{into_iter_items}
use Rattle.hol_clausify.specs.Sources.{literals_of}
use Rattle.goal_proofs.proofs.sourcing.part.Given as goal

abbrev pub invariant-loop-source : goal.invariant-loop-source
invariant-loop-source l = record {
  clauses : l.clauses ++ literals_of (into_iter_items l.source-iterator) ≡ l.initial.clauses ++ literals_of (into_iter_items l.initial.source-iterator);
  thms : l.thms ++ map (λ s. s.thm) (into_iter_items l.source-iterator) ≡ l.initial.thms ++ map (λ s. s.thm) (into_iter_items l.initial.source-iterator);
}
