-- How the lines and statements that are used are marked.
use Rattle.std.specs.Prelude.{◌≡◌, ℕ, zero, suc, ◌-◌, ◌<◌, Bool, true, false, IsTrue, ◌↔◌, List, length, slice_get, slice_set, slice_index_or, replicate, Option, Some, None}
use Rattle.fo_infer.specs.declared.refutation.Line.{Line}
use Rattle.fo_infer.specs.declared.refutation.Origin.{Origin}
use Rattle.fo_infer.specs.declared.refutation.Origin.TheVariants.{Input, Alone, Pair}
use Rattle.tstp_print.specs.Used.{IsUsed}

-- whether there is a mark at the place
abbrev pub is_marked : List Bool → ℕ → Bool
is_marked marks n = slice_index_or marks n false

-- marks at the parents too
abbrev pub parents_marked : Origin → List Bool → List Bool
parents_marked (Input number) marks = marks
parents_marked (Alone of rule) marks = slice_set marks of true
parents_marked (Pair left right rule) marks = slice_set (slice_set marks left true) right true

-- the parents of a line are marked where it is marked itself
abbrev pub line_marked : Bool → Option Line → List Bool → List Bool
line_marked true (Some l) marks = parents_marked l.origin marks
line_marked true None marks = marks
line_marked false l marks = marks

abbrev pub mark_step : List Line → ℕ → List Bool → List Bool
mark_step lines n marks = line_marked (is_marked marks n) (slice_get lines n) marks

-- all lines below `n` are gone through, from the last one down
abbrev pub all_marked : List Line → ℕ → List Bool → List Bool
all_marked lines zero marks = marks
all_marked lines (suc n) marks = all_marked lines n (mark_step lines n marks)

-- a mark at the last of `n` places
abbrev pub last_marked : ℕ → List Bool
last_marked n = slice_set (replicate n false) (n - 1) true

-- the marks are those of the lines that are used
pub record AreUsedMarks (lines : List Line) (marks : List Bool) : Type 0 where
  pub count : length marks ≡ length lines
  pub passes : (n : ℕ) → n < length lines → IsTrue (is_marked marks n) ↔ IsUsed lines n

-- ---- statements

-- the statement is that of an input at a marked line below `n`
pub record IsCitedBelow (sources : List ℕ) (lines : List Line) (used : List Bool) (n s : ℕ) : Type 0 where
  pub at : ℕ
  pub line : Line
  pub number : ℕ
  pub early : at < n
  pub marked : IsTrue (is_marked used at)
  pub line_is : slice_get lines at ≡ Some line
  pub origin : line.origin ≡ Input number
  pub source : slice_get sources number ≡ Some s

-- the marks are those of such statements
abbrev pub AreCitedMarks : List ℕ → List Line → List Bool → ℕ → List Bool → Type 0
AreCitedMarks sources lines used n marks = (s : ℕ) → s < length marks → IsTrue (is_marked marks s) ↔ IsCitedBelow sources lines used n s

-- a mark at the statement of an input; none for what is no input
abbrev pub source_marked : List ℕ → Origin → List Bool → List Bool
source_marked sources (Input number) marks = slice_set marks (slice_index_or sources number 0) true
source_marked sources (Alone of rule) marks = marks
source_marked sources (Pair left right rule) marks = marks

-- each input has a statement, which is one of `n`
pub record HasSource (sources : List ℕ) (n : ℕ) (o : Origin) : Type 0 where
  pub within : (number : ℕ) → o ≡ Input number → number < length sources
  pub small : (number : ℕ) → o ≡ Input number → slice_index_or sources number 0 < n
