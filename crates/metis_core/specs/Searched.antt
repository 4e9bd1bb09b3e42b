-- What contracts see of a search.
use Rattle.std.specs.Prelude.{◌≡◌, ◌≢◌, ℕ, ◌<◌, List, [], ◌∷◌, ◌++◌}
use Rattle.fo_terms.specs.declared.clause.Clause.{Clause}
use Rattle.fo_infer.specs.declared.refutation.Line.{Line}
use Rattle.fo_infer.specs.Lines.{FollowFrom}
use Rattle.metis_core.specs.declared.given.Given.{Given}
use Rattle.metis_core.specs.declared.turn.Turn.{Turn}
use Rattle.metis_core.specs.declared.turn.Turn.TheVariants.{More, Found, Saturated, Spent, NoMemory}
use Rattle.clause_ring.specs.declared.entry.Entry.{Entry}
use Rattle.metis_core.specs.State.{State}
use Rattle.metis_core.specs.Offer.{found, saturated, spent}
use Rattle.metis_core.specs.Search.{position_of, Run, Search}
use Rattle.metis_core.specs.Stock.{clauses}

-- what it was given, how many picks it made, the kept clauses with where they come from, behind them, once it is found, the empty one,
-- the numbers of the active clauses, the waiting ones, and what it last came to
pub record Searched : Type 0 where
  pub given : Given
  pub picks : ℕ
  pub lines : List Line
  pub active : List ℕ
  pub waiting : List Entry
  pub reached : Turn

-- its state, where nothing is found
abbrev pub state : Searched → State
state s = record { kept = clauses s.lines; active = s.active; waiting = s.waiting }

abbrev pub empty_clause : Clause
empty_clause = record { literals = [] }

-- the search ended with the empty clause, which stands behind the kept ones, and each line follows by its origin
pub record IsFound (s : Searched) : Type 0 where
  pub last : State
  pub ended : Search s.given found s.picks last
  pub lines : clauses s.lines ≡ last.kept ++ empty_clause ∷ []
  pub follow : FollowFrom (position_of s.given.positions) s.given.inputs [] s.lines

-- the search stands where the definition has it
abbrev pub StandsAt : Searched → Turn → Type 0
StandsAt s More = Run s.given s.picks (state s)
StandsAt s Found = IsFound s
StandsAt s Saturated = Search s.given saturated s.picks (state s)
StandsAt s Spent = Search s.given spent s.picks (state s)
StandsAt s NoMemory = Unit {0}

abbrev pub Stands : Searched → Type 0
Stands s = StandsAt s s.reached

-- no end is reached: a clause waits, and the budget isn't used up
pub record IsOpen (s : Searched) : Type 0 where
  pub waits : s.waiting ≢ []
  pub left : s.picks < s.given.budget
