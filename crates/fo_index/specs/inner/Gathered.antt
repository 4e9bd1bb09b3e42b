-- A front that is gathered while a term is walked.
use Rattle.std.specs.Prelude.{ℕ, ◌≡◌, ◌≤◌, ◌++◌, Bool, List, [], take, length, if◌then◌else◌}
use Rattle.fo_index.specs.Fronts.{until_variable}

-- the front of what is done and of these marks, whatever comes behind: they were added, and no more will be where the walk is over
pub record Gathers (done : List ℕ) (marks : List ℕ) (goes_on : Bool) (now : List ℕ) : Type 0 where
  pub front : (rest : List ℕ) → take 16 (done ++ until_variable (marks ++ rest)) ≡ take 16 (now ++ (if goes_on then until_variable rest else []))
  pub few : length now ≤ 16
