-- Numbers of clauses.
use Rattle.std.specs.Prelude.{◌≡◌, ℕ, ◌+◌, ◌*◌, true, false, nat_le, if◌then◌else◌, List, length, Option, Some, None}
use Rattle.hol_terms.specs.declared.term.Term.{Term}
use Rattle.formula_clauses.specs.declared.counting.Counts.{Counts}
use Rattle.hol_formulas.specs.declared.formula.Junction.{Junction}
use Rattle.hol_formulas.specs.declared.formula.Junction.TheVariants as junctions
use Rattle.formula_clauses.specs.Walks.{Progress, Walked, Pass, Walk}

-- so many clauses, with at most 64 in each list on the way; none where a list has more
abbrev pub Counted : Walked → Option ℕ → Type 0
Counted w (Some n) = (w.few ≡ true) × (length w.clauses ≡ n)
Counted w None = w.few ≡ false

-- the number doesn't depend on the terms put in, nor on the progress
abbrev pub CountedPass : (List Term → Pass) → Option ℕ → Type 0
CountedPass x n = (e : List Term) (p : Progress) → Counted (x e p) n

abbrev pub CountedBoth : Walk → Counts → Type 0
CountedBoth x c = CountedPass (x true) c.positive × CountedPass (x false) c.negative

abbrev pub at_most_64 : ℕ → Option ℕ
at_most_64 n = if nat_le n 64 then Some n else None

abbrev pub with_both : (ℕ → ℕ → ℕ) → Option ℕ → Option ℕ → Option ℕ
with_both f (Some m) (Some n) = at_most_64 (f m n)
with_both f (Some m) None = None
with_both f None n = None

abbrev pub sum_of : Option ℕ → Option ℕ → Option ℕ
sum_of = with_both (λ m n. m + n)

abbrev pub product_of : Option ℕ → Option ℕ → Option ℕ
product_of = with_both (λ m n. m * n)

abbrev pub counts_of : Junction → Counts → Counts → Counts
counts_of junctions.And a b = record { positive = sum_of a.positive b.positive; negative = product_of a.negative b.negative }
counts_of junctions.Or a b = record { positive = product_of a.positive b.positive; negative = sum_of a.negative b.negative }
counts_of junctions.Imp a b = record { positive = product_of a.negative b.positive; negative = sum_of a.positive b.negative }
counts_of junctions.Iff a b =
    record {
      positive = sum_of (product_of a.negative b.positive) (product_of a.positive b.negative);
      negative = sum_of (product_of a.positive b.positive) (product_of a.negative b.negative);
    }
