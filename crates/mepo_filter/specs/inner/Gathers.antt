-- What is gathered of facts.
use Rattle.std.specs.Prelude.{◌≡◌, List, All, length}
use Rattle.mepo_filter.specs.declared.gathering.Gathered.{Gathered}
use Rattle.mepo_filter.specs.Scores.{Candidate, frequency}
use Rattle.mepo_filter.specs.inner.Tables.{count_in}
use Rattle.mepo_filter.specs.inner.Places.{IsWithin, candidates_at}

-- the facts so far
abbrev pub gathered_of : Gathered → List Candidate
gathered_of g = candidates_at g.flat g.places

-- their places are within the list, and their constants are counted
pub record IsSound (g : Gathered) : Type 0 where
  pub within : All (IsWithin (length g.flat)) g.places
  pub counted : count_in g.counts ≡ frequency (gathered_of g)
