-- Lists of facts that can be searched with and are found.
use Rattle.std.specs.Prelude.{ℕ, List}
use Rattle.hol_terms.specs.declared.env.Env.{Env}
use Rattle.goal_search.specs.Fitting.{CanSearch}
use Rattle.goal_search.specs.Found.{Found}

pub record Finds (env : Env) (budget : ℕ) (facts : List ℕ) : Type 0 where
  pub can : CanSearch env facts
  pub found : Found env facts budget
