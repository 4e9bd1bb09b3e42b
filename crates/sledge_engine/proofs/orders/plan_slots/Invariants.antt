use Rattle.std.proofs.Common.{◌≡◌, length, map}
use Rattle.std.specs.List.{range_with_len}
use Rattle.sledge_engine.specs.Orders.{order_of, sliced}
use Rattle.sledge_engine.proofs.orders.plan_slots.Given as goal

abbrev pub invariant-loop-k : goal.invariant-loop-k
invariant-loop-k g l =
    (l.orders ≡ map (order_of l.ground.theory.now l.ground.goal l.prover) (range_with_len 0 l.k))
    × (l.chosen ≡ map (λ k. length (sliced l.ground.theory.now l.ground.goal k)) (range_with_len 0 l.k))
