use Rattle.std.proofs.Common.{◌++◌, ◌∷◌, [], All, map, ap, subst, sym, ◌∙◌}
use Rattle.std.specs.Vec.Iter.{into_iter_items}
use Rattle.std.proofs.lemmas.List.{append_assoc}
use Rattle.std.proofs.lemmas.List.Elements.{All-tail}
use Rattle.fo_infer.specs.inner.Findings.{IsPlaced, made_of, all_made}
use Rattle.fo_light.specs.Light.{as_made, light}
use Rattle.fo_light.proofs.Lighter.{light_front}
use Rattle.fo_light.proofs.lists.write_light.Goals as goal

pub loop-f-preserved : goal.loop-f-preserved
loop-f-preserved c =
    let p = c.args.p.now in
    let apart = c.args.apart.now in
    let rest = into_iter_items c.next.new.self in
    record {
      placed = All-tail (λ f. IsPlaced p apart f.rule) c.in-Some.f rest (subst (All (λ f. IsPlaced p apart f.rule)) c.in-Some.ensures.steps.0 c.loop-f.invariant.placed);
      whole = ap (λ o. o ++ light (all_made p apart rest)) c.in_ok-add_one.ensures
          ∙ append_assoc (map as_made c.loop-f.out) (light (made_of p apart c.in-Some.f ∷ [])) (light (all_made p apart rest))
          ∙ ap (λ l. map as_made c.loop-f.out ++ l) (light_front (made_of p apart c.in-Some.f) (all_made p apart rest))
          ∙ ap (λ fs. map as_made c.loop-f.out ++ light (all_made p apart fs)) (sym c.in-Some.ensures.steps.0) ∙ c.loop-f.invariant.whole;
    }
