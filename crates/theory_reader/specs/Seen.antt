-- The facts that a goal is proved from, and its environment.
use Rattle.std.specs.Prelude.{◌≡◌, ℕ, List, [], map, slice_get, Some}
use Rattle.std.specs.Option.{option_map, option_map_or}
use Rattle.hol_terms.specs.declared.env.Env.{Env}
use Rattle.theory_terms.specs.Signature.{sig_of}
use Rattle.theory_reader.specs.declared.statement.Fact.{Fact}
use Rattle.theory_reader.specs.declared.theory.Theory.{Theory}
use Rattle.theory_reader.specs.Sound.{seen_from}
use Rattle.theory_reader.specs.Declarations.{Declarations, known}

-- what the theory declares
abbrev pub declarations : Theory → Declarations
declarations t = record { types = t.types; consts = t.consts; facts = t.facts; goals = t.goals }

-- the facts before the goal with this number, and then its assumptions; none where there is no such goal
abbrev pub seen : Theory → ℕ → List Fact
seen t n = option_map_or (seen_from t.facts) (slice_get t.goals n) []

-- the environment of the goal with this number
pub record IsEnvOf (t : Theory) (n : ℕ) (e : Env) : Type 0 where
  pub sig : e.sig ≡ sig_of (known (declarations t))
  pub facts : e.facts ≡ map (λ f. f.formula) (seen t n)
  pub goal : option_map (λ g. g.formula) (slice_get t.goals n) ≡ Some e.goal
