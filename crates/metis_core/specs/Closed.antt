-- What is known where a search is saturated: its active clauses are closed under inferences, but for redundant ones.
use Rattle.std.specs.Prelude.{List, IsTrue, ◌<◌, Contains}
use Rattle.fo_terms.specs.declared.clause.Clause.{Clause}
use Rattle.fo_terms.specs.Weight.{clause_size}
use Rattle.fo_terms.specs.Normal.{is_tautology}
use Rattle.fo_infer.specs.declared.made.Made.{Made}
use Rattle.fo_infer.specs.Inferences.{Alone, BetweenAt}
use Rattle.fo_infer.specs.Subsumption.{Subsumes}
use Rattle.metis_core.specs.declared.given.Given.{Given}
use Rattle.metis_core.specs.State.{State, IsActive}
use Rattle.metis_core.specs.Search.{position_of, normal_forms}

-- a clause that isn't needed beside the active ones
pub data Redundant (s : State) (c : Clause) : Type 0 where
  tautology : IsTrue (is_tautology c.literals) → Redundant s c
  heavy : 512 < clause_size c → Redundant s c
  subsumed : (p : Clause) → IsActive s p → Subsumes p c → Redundant s c
  active : IsActive s c → Redundant s c

-- the normal forms of the inputs, and the clauses of all inferences of active clauses, are redundant
pub record Closed (given : Given) (s : State) : Type 0 where
  pub inputs : (c : Clause) → Contains (normal_forms given.inputs) c → Redundant s c
  pub alone : (p : Clause) (made : List Made) (m : Made) → IsActive s p → Alone p made → Contains made m → Redundant s m.clause
  pub pairs : (p q : Clause) (made : List Made) (m : Made) → IsActive s p → IsActive s q → BetweenAt (position_of given.positions) p q made → Contains made m → Redundant s m.clause
