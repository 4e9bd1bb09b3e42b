-- Marks in one word, which counts places by remainders.
use Rattle.std.specs.Prelude.{◌≡◌, ℕ, ◌+◌, ◌-◌, ◌*◌, ◌%◌, ◌^◌, ◌≤◌, Option, Some, None, bit_or}
use Rattle.std.specs.Int.{bit_at}
use Rattle.pair_marks.specs.declared.tops.Top.{Top}
use Rattle.pair_marks.specs.declared.tops.Top.TheVariants.{Any, Over, Pair, Sole}

-- the place of a symbol with the one below it, or with none
abbrev pub place_of : ℕ → ℕ → Option ℕ → ℕ
place_of m f None = f % 64 * 13 % m
place_of m f (Some g) = (f % 64 * 13 + g % m + 1) % m

abbrev pub mark_of : ℕ → ℕ → Option ℕ → ℕ
mark_of m f below = (1 * 2 ^ place_of m f below) % 2 ^ 64

abbrev pub all_marks : ℕ
all_marks = 2 ^ 64 - 1

-- the marks that a term with this top needs of others
abbrev pub needed : ℕ → Top → ℕ
needed m Any = all_marks
needed m (Over f) = mark_of m f None
needed m (Pair f g) = mark_of m f (Some g)
needed m (Sole f) = mark_of m f None

-- those that it offers
abbrev pub offered : ℕ → Top → ℕ
offered m Any = all_marks
offered m (Over f) = all_marks
offered m (Pair f g) = bit_or (mark_of m f (Some g)) (mark_of m f None)
offered m (Sole f) = mark_of m f None

-- the mark of a symbol alone, which a term both needs and offers
abbrev pub symbol_marks : ℕ → Option ℕ → ℕ
symbol_marks m None = all_marks
symbol_marks m (Some f) = mark_of m f None

-- some mark is in both
abbrev pub Share : ℕ → ℕ → Type 0
Share a b = (i : ℕ) × (bit_at a i ≡ 1) × (bit_at b i ≡ 1)

-- each mark of the one is in the other
abbrev pub Inside : ℕ → ℕ → Type 0
Inside a b = (i : ℕ) → bit_at a i ≤ bit_at b i
