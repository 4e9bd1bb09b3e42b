-- What the words of a line ask of its command.
use Rattle.std.specs.Prelude.{ℕ, Bool, List, [], drop, get_or, map}
use Rattle.sledge_words.specs.declared.line.Line.{Line}

-- the words at the places of the arguments
abbrev pub arguments : List (List ℕ) → Line → List (List ℕ)
arguments words l = map (λ place. get_or words place []) l.places

-- `metis`: whether the facts of these names prove the goal of this name in the theory of this name, within so many picks of a search, and whether
-- the proof is to be shown
pub record MetisLine : Type 0 where
  pub theory : List ℕ
  pub goal : List ℕ
  pub facts : List (List ℕ)
  pub budget : ℕ
  pub shows : Bool

abbrev pub metis_line : Line → List (List ℕ) → MetisLine
metis_line l words = record { theory = get_or words 0 []; goal = get_or words 1 []; facts = drop 2 words; budget = l.budget; shows = l.proof }

-- `check`: whether the file of the second name is a proof over the theory of the first
pub record CheckLine : Type 0 where
  pub theory : List ℕ
  pub proof : List ℕ

abbrev pub check_line : List (List ℕ) → CheckLine
check_line words = record { theory = get_or words 0 []; proof = get_or words 1 [] }

-- `filter`, `problem`: what the slice with this number chooses for the goal of this name
pub record SliceLine : Type 0 where
  pub theory : List ℕ
  pub goal : List ℕ
  pub slice : ℕ

abbrev pub slice_line : Line → List (List ℕ) → SliceLine
slice_line l words = record { theory = get_or words 0 []; goal = get_or words 1 []; slice = l.slice }

-- `prove`: a race for the goal of the second name in the theory of the first
pub record GoalLine : Type 0 where
  pub theory : List ℕ
  pub goal : List ℕ

abbrev pub goal_line : List (List ℕ) → GoalLine
goal_line words = record { theory = get_or words 0 []; goal = get_or words 1 [] }
