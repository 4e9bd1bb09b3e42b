-- What is planned for the slots of a race.
use Rattle.std.specs.Prelude.{ℕ, ◌≡◌, List, length, map}
use Rattle.std.specs.List.{range_with_len}
use Rattle.theory_reader.specs.declared.theory.Theory.{Theory}
use Rattle.sledge_engine.specs.declared.orders.Plan.{Plan}
use Rattle.sledge_engine.specs.declared.orders.Planned.{Planned}
use Rattle.sledge_engine.specs.Orders.{order_of, orders_for, sliced}

-- what slot k's child is started with, and how many facts slice k has chosen
pub record IsPlanned (t : Theory) (goal : ℕ) (prover : List ℕ) (k : ℕ) (p : Planned) : Type 0 where
  pub order : p.order ≡ order_of t goal prover k
  pub chosen : p.chosen ≡ length (sliced t goal k)

-- the same for so many slots
pub record ArePlanned (t : Theory) (goal : ℕ) (prover : List ℕ) (slices : ℕ) (p : Plan) : Type 0 where
  pub orders : p.orders ≡ orders_for t goal prover slices
  pub chosen : p.chosen ≡ map (λ k. length (sliced t goal k)) (range_with_len 0 slices)
