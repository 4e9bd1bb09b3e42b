use Rattle.std.proofs.Common.{◌≡◌, ◌++◌, map}
use Rattle.std.specs.Vec.Iter.{into_iter_items}
use Rattle.fol_prover.specs.Proving.{inputs_of, sources_of}
use Rattle.fol_prover.proofs.splitting.split_clauses.Given as goal

abbrev pub invariant-loop-c : goal.invariant-loop-c
invariant-loop-c l = record {
  inputs : l.inputs ++ inputs_of (into_iter_items l.c-iterator) ≡ inputs_of (into_iter_items l.initial.c-iterator);
  sources : l.sources ++ sources_of (into_iter_items l.c-iterator) ≡ sources_of (into_iter_items l.initial.c-iterator);
}
