use Rattle.std.proofs.Common.{◌≡◌, ◌++◌, All, map}
use Rattle.std.specs.Vec.Iter.{into_iter_items}
use Rattle.fo_infer.specs.inner.Findings.{IsPlaced, all_made}
use Rattle.fo_light.specs.Light.{as_made, light}
use Rattle.fo_light.proofs.lists.write_light.Given as goal

abbrev pub invariant-loop-f : goal.invariant-loop-f
invariant-loop-f l = record {
  placed : All (λ f. IsPlaced l.p l.apart f.rule) (into_iter_items l.f-iterator);
  whole : map as_made l.out ++ light (all_made l.p l.apart (into_iter_items l.f-iterator)) ≡ light (all_made l.p l.apart (into_iter_items l.initial.f-iterator));
}
