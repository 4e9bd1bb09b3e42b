use Rattle.std.proofs.Common.{ℕ, ◌≡◌, ◌∙◌, ◌+◌, ◌++◌, ◌∷◌, [], ap, arith, length, map, sym}
use Rattle.std.specs.List.{range_with_len}
use Rattle.std.proofs.lemmas.List.FromFn.{map-range_with_len_more}
use Rattle.race_core.specs.declared.slot.Order.{Order}
use Rattle.sledge_engine.specs.Orders.{order_of, sliced}
use Rattle.sledge_engine.proofs.orders.plan_slots.Goals as goal

pub loop-k-preserved : goal.loop-k-preserved
loop-k-preserved g c =
    let t = c.args.ground.theory.now in
    let n = c.args.ground.goal in
    let k = c.loop-k.k in
    let order : ℕ → Order = order_of t n c.args.prover.now in
    let counts : ℕ → ℕ = λ k. length (sliced t n k) in
    let at : 0 + k ≡ k = omega arith in
    let planned = c.in_ok-planned.ensures in (
      c.in_ok-push.ensures.ok ∙ ap (λ l. l ++ c.in_ok-planned.planned.order ∷ []) c.loop-k.invariant.0
          ∙ ap (λ o. map order (range_with_len 0 k) ++ o ∷ []) planned.order ∙ sym (map-range_with_len_more order 0 k k at),
      c.in_ok-push-2.ensures.ok ∙ ap (λ l. l ++ c.in_ok-planned.planned.chosen ∷ []) c.loop-k.invariant.1
          ∙ ap (λ m. map counts (range_with_len 0 k) ++ m ∷ []) planned.chosen ∙ sym (map-range_with_len_more counts 0 k k at),
    )
