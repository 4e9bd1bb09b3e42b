use Rattle.std.proofs.Common.{◌≡◌, ◌++◌, All}
use Rattle.std.specs.Vec.Iter.{into_iter_items}
use Rattle.fo_infer.specs.inner.Findings.{IsPlaced, all_made}
use Rattle.fo_infer.proofs.writing.write_all.Given as goal

abbrev pub invariant-loop-f : goal.invariant-loop-f
invariant-loop-f l = record {
  placed : All (λ f. IsPlaced l.p l.apart f.rule) (into_iter_items l.f-iterator);
  whole : l.out ++ all_made l.p l.apart (into_iter_items l.f-iterator) ≡ all_made l.p l.apart (into_iter_items l.initial.f-iterator);
}
