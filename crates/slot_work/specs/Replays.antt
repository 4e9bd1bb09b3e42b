-- What a replay of facts gives: how the search with them ends, and where it finds a refutation, minimal facts and a proof from them.
use Rattle.std.specs.Prelude.{ℕ, List, All, Contains}
use Rattle.hol_terms.specs.declared.env.Env.{Env}
use Rattle.kernel_rules.specs.Derivations.{Proves, leaves}
use Rattle.hol_kernel.specs.declared.proven.Proven.{Proven}
use Rattle.race_core.specs.declared.outcome.Outcome.{Outcome}
use Rattle.race_core.specs.declared.outcome.Outcome.TheVariants as outcome
use Rattle.metis_core.specs.Offer.{saturated, spent}
use Rattle.fact_minimise.specs.Sublists.{IsSublist}
use Rattle.fact_minimise.specs.Minimal.{IsMinimal}
pub use Rattle.goal_search.specs.Found.{EndsAs, Found}
use Rattle.slot_work.specs.declared.replayed.Replayed.{Replayed}
use Rattle.slot_work.specs.declared.replayed.Replayed.TheVariants as replayed

-- the search finds a refutation with these facts, and without any one of them it finds none
abbrev pub Minimal : Env → List ℕ → ℕ → Type 0
Minimal env facts budget = IsMinimal (λ fs. Found env fs budget) facts

-- minimal facts of those that were used, and a derivation of the goal from no facts but them
pub record IsProof (env : Env) (used : List ℕ) (budget : ℕ) (p : Proven) : Type 0 where
  pub sublist : IsSublist p.names used
  pub minimal : Minimal env p.names budget
  pub proves : Proves env p.steps
  pub leaves_are : All (λ n. Contains p.names n) (leaves p.steps)

-- the outcome of a search with the facts that were used
abbrev pub From : Env → List ℕ → ℕ → Outcome Proven → Type 0
From env used budget (outcome.Proved p) = Found env used budget × IsProof env used budget p
From env used budget outcome.Saturated = EndsAs env used budget saturated
From env used budget outcome.Spent = EndsAs env used budget spent
From env used budget _ = ⊥

abbrev pub outcome_of : Replayed → Outcome Proven
outcome_of (replayed.Proved p) = outcome.Proved p
outcome_of replayed.Saturated = outcome.Saturated
outcome_of replayed.Spent = outcome.Spent
