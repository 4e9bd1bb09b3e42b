-- What the children of a race are started with.
use Rattle.std.specs.Prelude.{ℕ, List, [], ◌∷◌, codes, decimal, map}
use Rattle.std.specs.List.{range_with_len}
use Rattle.race_core.specs.declared.slot.Order.{Order}
use Rattle.theory_reader.specs.declared.theory.Theory.{Theory}
use Rattle.mepo_filter.specs.Slices.{slice_at}
use Rattle.tptp_print.specs.Problems.{problem_text}
use Rattle.sledge_engine.specs.Filter.{slice_choice}

-- the words of a child: the program, with the limit of its picks and the age at which it takes the oldest clause
abbrev pub child_words : List ℕ → ℕ → List (List ℕ)
child_words prover age = prover ∷ codes "--budget" ∷ codes "4000" ∷ codes "--age" ∷ decimal age ∷ []

-- the numbers of the facts that a slice chooses, in the order of their ranks
abbrev pub sliced : Theory → ℕ → ℕ → List ℕ
sliced t goal k = map (λ c. c.fact) (slice_choice t goal k)

-- slot k's child is started with the slice's age, and reads the problem of the facts that the slice chooses
abbrev pub order_of : Theory → ℕ → List ℕ → ℕ → Order
order_of t goal prover k = record { args = child_words prover (slice_at k).age; problem = problem_text t goal (sliced t goal k) }

abbrev pub orders_for : Theory → ℕ → List ℕ → ℕ → List Order
orders_for t goal prover slices = map (order_of t goal prover) (range_with_len 0 slices)
