-- The marks by which pairs of active clauses are left out that have no inferences.
use Rattle.std.specs.Prelude.{◌≡◌, ℕ, Bool, true, false, List, length, Some, slice_get}
use Rattle.fo_terms.specs.declared.clause.Clause.{Clause}
use Rattle.fo_infer.specs.declared.refutation.Line.{Line}
use Rattle.pair_marks.specs.declared.pairs.PairMarks.{PairMarks}
use Rattle.pair_marks.specs.Marking.{AreMarksOf}
use Rattle.metis_core.specs.declared.given.Positions.{Positions}
use Rattle.metis_core.specs.declared.given.Positions.TheVariants.{Tagged, Plain}
use Rattle.metis_core.specs.Stock.{clauses}

-- whether the positions are those of all subterms
abbrev pub plain : Positions → Bool
plain Tagged = false
plain Plain = true

-- the marks of the clauses of these numbers, in their order
pub record AreReach (positions : Positions) (lines : List Line) (active : List ℕ) (reach : List PairMarks) : Type 0 where
  pub as_many : length reach ≡ length active
  pub each : (k n : ℕ) (m : PairMarks) (p : Clause) → slice_get active k ≡ Some n → slice_get reach k ≡ Some m → slice_get (clauses lines) n ≡ Some p → AreMarksOf (plain positions) p m
