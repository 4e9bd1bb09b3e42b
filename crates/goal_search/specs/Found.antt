-- The search for a refutation of facts and a negated goal, and how it ends.
use Rattle.std.specs.Prelude.{◌≡◌, ℕ, Bool, true, false, List}
use Rattle.hol_terms.specs.declared.env.Env.{Env}
use Rattle.fo_terms.specs.declared.clause.Clause.{Clause}
use Rattle.fo_infer.specs.Inferences.{tagged_position}
use Rattle.fo_infer.specs.Lines.{Refutes}
use Rattle.metis_core.specs.declared.given.Given.{Given}
use Rattle.metis_core.specs.declared.given.Positions.TheVariants.{Tagged}
use Rattle.metis_core.specs.State.{State}
use Rattle.metis_core.specs.Offer.{End, found, saturated, spent}
use Rattle.metis_core.specs.Search.{Search}
use Rattle.goal_search.specs.declared.ended.Ended.{Ended}
use Rattle.goal_search.specs.declared.ended.Ended.TheVariants as ended
use Rattle.goal_search.specs.Encoded.{inputs}

-- every fifth pick takes the oldest clause, and equations are put into tagged terms
abbrev pub given_with : List Clause → ℕ → Given
given_with inputs budget = record { inputs = inputs; budget = budget; age = 5; positions = Tagged }

-- a search ends so, after some number of picks in some state
abbrev pub SearchEnds : Given → End → Type 0
SearchEnds given e = (picks : ℕ) × (s : State) × Search given e picks s

-- the search for the goal with these facts, and with this budget of picks, ends so
abbrev pub EndsAs : Env → List ℕ → ℕ → End → Type 0
EndsAs env facts budget e = SearchEnds (given_with (inputs env facts) budget) e

abbrev pub Found : Env → List ℕ → ℕ → Type 0
Found env facts budget = EndsAs env facts budget found

-- how a search of these clauses ended: what is found is a refutation of them
abbrev pub Ends : List Clause → ℕ → Ended → Type 0
Ends clauses budget (ended.Found r) = SearchEnds (given_with clauses budget) found × Refutes tagged_position clauses r.lines
Ends clauses budget ended.Saturated = SearchEnds (given_with clauses budget) saturated
Ends clauses budget ended.Spent = SearchEnds (given_with clauses budget) spent

-- a search ends in one way
abbrev pub OneEnd : Given → Type 0
OneEnd given = (e f : End) → SearchEnds given e → SearchEnds given f → e ≡ f

-- it found a refutation
abbrev pub was_found : Ended → Bool
was_found (ended.Found r) = true
was_found ended.Saturated = false
was_found ended.Spent = false
