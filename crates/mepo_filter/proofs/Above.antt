-- The greater score comes first: an order of all pairs.
use Rattle.std.proofs.Common.{◌≡◌, ℕ, ◌*◌, ◌<◌, ◌≤◌, true, false, arith}
use Rattle.std.specs.Prelude.{nat_lt, max}
use Rattle.std.specs.Cmp.{IsStrictWeakOrder}
use Rattle.std.proofs.lemmas.Bool.Decides.{nat_tests}
use Rattle.std.proofs.Math.Nat.{mul-le-mul_right, le_of_mul-le-mul_right}
use Rattle.mepo_filter.specs.Ranking.{is_above}

below : (p q : ℕ) → nat_lt p q ≡ true → nat_lt q p ≡ false
below p q e = grind (arith, nat_tests)

not_below : (p q : ℕ) → nat_lt p q ≡ false → q ≤ p
not_below p q e = grind (arith, nat_tests)

is_not_below : (p q : ℕ) → q ≤ p → nat_lt p q ≡ false
is_not_below p q h = grind (arith, nat_tests)

-- fractions a/p, b/q, c/r
chained : (a p b q c r : ℕ) → 0 < q → a * q ≤ b * p → b * r ≤ c * q → a * r ≤ c * p
chained a p b q c r some one two =
    let first : a * q * r ≤ b * p * r = mul-le-mul_right r one in
    let second : b * r * p ≤ c * q * p = mul-le-mul_right p two in
    let all : a * r * q ≤ c * p * q = omega arith in
    le_of_mul-le-mul_right all some

pub above_order : IsStrictWeakOrder is_above
above_order = record {
  one_way = λ a b e. below (b.top * max 1 a.bottom) (a.top * max 1 b.bottom) e;
  chain = λ a b c e f. is_not_below (c.top * max 1 a.bottom) (a.top * max 1 c.bottom)
      (chained a.top (max 1 a.bottom) b.top (max 1 b.bottom) c.top (max 1 c.bottom) (omega arith)
      (not_below (b.top * max 1 a.bottom) (a.top * max 1 b.bottom) e) (not_below (c.top * max 1 b.bottom) (b.top * max 1 c.bottom) f));
}
