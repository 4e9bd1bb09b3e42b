-- Lists of facts of which none can be spared.
use Rattle.std.specs.Prelude.{ℕ, List, Contains}
use Rattle.fact_minimise.specs.Sublists.{without}

-- the facts are found, and without any one of them they aren't
pub record IsMinimal (finds : List ℕ → Type 0) (facts : List ℕ) : Type 0 where
  pub found : finds facts
  pub none_to_spare : (fact : ℕ) → Contains facts fact → finds (without fact facts) → ⊥
