-- What the code holds of the facts that fit.
use Rattle.std.specs.Prelude.{ℕ, ◌≡◌, Bool, false, List, slice_get}
use Rattle.std.specs.Option.{option_map_or}
use Rattle.hol_terms.specs.declared.env.Env.{Env}
use Rattle.theory_reader.specs.declared.theory.Theory.{Theory}
use Rattle.theory_reader.specs.Sound.{fact_names}
use Rattle.theory_reader.specs.Seen.{IsEnvOf, seen}
use Rattle.formula_clauses.specs.Fits.{fits}

-- the fact with this number fits
abbrev pub fits_at : Env → ℕ → Bool
fits_at e n = option_map_or (λ t. fits e.sig t false) (slice_get e.facts n) false

-- the environment and the names of its facts are those of the goal
pub record IsSeen (t : Theory) (goal : ℕ) (e : Env) (names : List (List ℕ)) : Type 0 where
  pub env : IsEnvOf t goal e
  pub names_are : names ≡ fact_names (seen t goal)
