-- Which lines of a refutation, and which statements, its last line needs.
use Rattle.std.specs.Prelude.{◌≡◌, ◌⊎◌, ℕ, suc, ◌<◌, Bool, IsTrue, ◌↔◌, List, length, Some, slice_get}
use Rattle.std.specs.List.{filter}
use Rattle.fo_infer.specs.declared.refutation.Line.{Line}
use Rattle.fo_infer.specs.declared.refutation.Origin.{Origin}
use Rattle.fo_infer.specs.declared.refutation.Origin.TheVariants.{Input, Alone, Pair}
use Rattle.tstp_print.specs.Names.{below}

-- the line with this number is one that a line comes from
abbrev pub IsParent : Origin → ℕ → Type 0
IsParent (Input number) m = ⊥
IsParent (Alone of rule) m = m ≡ of
IsParent (Pair left right rule) m = (m ≡ left) ⊎ (m ≡ right)

-- the last line is used, and so is what a used line comes from
pub data IsUsed (lines : List Line) : ℕ → Type 0 where
  last : {n : ℕ} → length lines ≡ suc n → IsUsed lines n
  parent : {n m : ℕ} {l : Line} → IsUsed lines n → slice_get lines n ≡ Some l → IsParent l.origin m → IsUsed lines m

-- the statement is one that a used input is a clause of, where `sources` has the statement of each input
pub record IsCited (sources : List ℕ) (lines : List Line) (statement : ℕ) : Type 0 where
  pub n : ℕ
  pub line : Line
  pub number : ℕ
  pub used : IsUsed lines n
  pub line_is : slice_get lines n ≡ Some line
  pub origin : line.origin ≡ Input number
  pub source : slice_get sources number ≡ Some statement

-- the numbers below `n` that have the property, in order
pub record AreThose (P : ℕ → Type 0) (n : ℕ) (those : List ℕ) : Type 0 where
  pub test : ℕ → Bool
  pub passes : (k : ℕ) → k < n → IsTrue (test k) ↔ P k
  pub are : those ≡ filter test (below n)

-- a line comes from earlier ones
abbrev pub AreDrawn : List Line → Type 0
AreDrawn lines = (n : ℕ) (l : Line) → slice_get lines n ≡ Some l → (m : ℕ) → IsParent l.origin m → m < n
