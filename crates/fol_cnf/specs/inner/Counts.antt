-- Numbers of clauses.
use Rattle.std.specs.Prelude.{◌≡◌, ℕ, ◌+◌, ◌*◌, true, false, nat_le, if◌then◌else◌, length, Option, Some, None}
use Rattle.fol_cnf.specs.declared.counting.Counts.{Counts}
use Rattle.fol_cnf.specs.declared.progress.Progress.{Progress}
use Rattle.fol_cnf.specs.Scopes.{Scope}
use Rattle.fol_cnf.specs.Walks.{Walked, Pass, Walk}

-- so many clauses, with at most 1,024 in each list on the way; none where a list has more
abbrev pub Counted : Walked → Option ℕ → Type 0
Counted w (Some n) = (w.few ≡ true) × (length w.clauses ≡ n)
Counted w None = w.few ≡ false

-- the number doesn't depend on the terms put in, nor on the next numbers
abbrev pub CountedPass : (Scope → Pass) → Option ℕ → Type 0
CountedPass x n = (v : Scope) (p : Progress) → Counted (x v p) n

abbrev pub CountedBoth : Walk → Counts → Type 0
CountedBoth x c = CountedPass (x true) c.positive × CountedPass (x false) c.negative

abbrev pub at_most_1024 : ℕ → Option ℕ
at_most_1024 n = if nat_le n 1024 then Some n else None

abbrev pub with_both : (ℕ → ℕ → ℕ) → Option ℕ → Option ℕ → Option ℕ
with_both f (Some m) (Some n) = at_most_1024 (f m n)
with_both f (Some m) None = None
with_both f None n = None

abbrev pub sum_of : Option ℕ → Option ℕ → Option ℕ
sum_of = with_both (λ m n. m + n)

abbrev pub product_of : Option ℕ → Option ℕ → Option ℕ
product_of = with_both (λ m n. m * n)

abbrev pub flipped_of : Counts → Counts
flipped_of a = record { positive = a.negative; negative = a.positive }

abbrev pub and_of : Counts → Counts → Counts
and_of a b = record { positive = sum_of a.positive b.positive; negative = product_of a.negative b.negative }

abbrev pub or_of : Counts → Counts → Counts
or_of a b = record { positive = product_of a.positive b.positive; negative = sum_of a.negative b.negative }

abbrev pub iff_of : Counts → Counts → Counts
iff_of a b =
    record {
      positive = sum_of (product_of a.negative b.positive) (product_of a.positive b.negative);
      negative = sum_of (product_of a.positive b.positive) (product_of a.negative b.negative);
    }
