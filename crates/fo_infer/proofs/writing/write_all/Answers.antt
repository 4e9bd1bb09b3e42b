use Rattle.std.proofs.Common.{◌≡◌, ◌++◌, ◌∷◌, [], All, ap, subst, sym, ◌∙◌, arith}
use Rattle.std.specs.Vec.Iter.{into_iter_items}
use Rattle.std.proofs.lemmas.List.{nil_from_length, append-nil, append_assoc}
use Rattle.std.proofs.lemmas.List.Elements.{All-head, All-tail}
use Rattle.fo_infer.specs.inner.Findings.{IsPlaced, left_by, all_made}
use Rattle.fo_infer.specs.Inferences.{conclusion}
use Rattle.fo_infer.proofs.writing.write_all.Goals as goal

pub loop-f-init : goal.loop-f-init
loop-f-init c =
    let items : into_iter_items c.into_iter-f-iterator.result ≡ c.args.found = c.into_iter-f-iterator.ensures.into_iter_gives.0 ∙ c.into_vec-f-items.ensures in
    record {
      placed = subst (All (λ f. IsPlaced c.args.p.now c.args.apart.now f.rule)) (sym items) c.requires;
      whole = ap (λ o. o ++ all_made c.args.p.now c.args.apart.now (into_iter_items c.into_iter-f-iterator.result)) c.begin-out.ensures;
    }

pub conclude-requires : goal.conclude-requires
conclude-requires c =
    All-head (λ f. IsPlaced c.args.p.now c.args.apart.now f.rule) c.in-Some.f (into_iter_items c.next.new.self)
    (subst (All (λ f. IsPlaced c.args.p.now c.args.apart.now f.rule)) c.in-Some.ensures.steps.0 c.loop-f.invariant.placed)

pub loop-f-preserved : goal.loop-f-preserved
loop-f-preserved c =
    let p = c.args.p.now in
    let apart = c.args.apart.now in
    let rest = into_iter_items c.next.new.self in
    let clause = c.in_ok-clause.ensures ∙ ap (λ bs. conclusion bs (left_by p apart c.in-Some.f.rule)) (c.as_slice.ensures ∙ c.in_ok-binds.ensures) in
    record {
      placed = All-tail (λ f. IsPlaced p apart f.rule) c.in-Some.f rest (subst (All (λ f. IsPlaced p apart f.rule)) c.in-Some.ensures.steps.0 c.loop-f.invariant.placed);
      whole = ap (λ o. o ++ all_made p apart rest) (c.in_ok-push.ensures.ok ∙ ap (λ d. c.loop-f.out ++ record { clause = d; rule = c.in-Some.f.rule } ∷ []) clause)
          ∙ append_assoc c.loop-f.out (record { clause = conclusion c.in-Some.f.unifier (left_by p apart c.in-Some.f.rule); rule = c.in-Some.f.rule } ∷ []) (all_made p apart rest)
          ∙ ap (λ fs. c.loop-f.out ++ all_made p apart fs) (sym c.in-Some.ensures.steps.0) ∙ c.loop-f.invariant.whole;
    }

pub returns : goal.returns
returns c =
    let p = c.args.p.now in
    let apart = c.args.apart.now in
    let none : into_iter_items c.loop-f.f-iterator ≡ [] = nil_from_length (into_iter_items c.loop-f.f-iterator) (omega (arith, c.in-None.ensures.steps.0, c.loop-f.f-iterator.rest.ok.0)) in
    sym (append-nil c.loop-f.out) ∙ ap (λ fs. c.loop-f.out ++ all_made p apart fs) (sym none) ∙ c.loop-f.invariant.whole
    ∙ ap (all_made p apart) (c.into_iter-f-iterator.ensures.into_iter_gives.0 ∙ c.into_vec-f-items.ensures)
