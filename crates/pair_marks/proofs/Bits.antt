-- Marks in a word: what goes in stays in, and terms that meet share one.
use Rattle.std.proofs.Common.{◌≡◌, ◌≢◌, ℕ, ◌+◌, ◌*◌, ◌%◌, ◌<◌, ◌≤◌, ap, ◌∙◌, arith, w64, Option, Some, None}
use Rattle.std.specs.Prelude.{bit_or, bit_and}
use Rattle.std.specs.Int.{bit_at}
use Rattle.std.proofs.Math.Nat.{mod-lt}
use Rattle.std.proofs.lemmas.Nat.Bits.{bit_at-zero, bit_at-lt, bit_at_or, bit_at_and, bit_at_ones, bit_at_set_same}
use Rattle.pair_marks.specs.declared.tops.Top.{Top}
use Rattle.pair_marks.specs.declared.tops.Top.TheVariants.{Any, Over, Pair, Sole}
use Rattle.pair_marks.specs.Words.{place_of, mark_of, all_marks, needed, offered, symbol_marks, Share, Inside}

pub through : (a b c : ℕ) → Inside a b → Inside b c → Inside a c
through a b c h k i = let first = h i in let second = k i in omega arith

pub left_inside : (a b : ℕ) → Inside a (bit_or a b)
left_inside a b i = let both = bit_at_or a b i in omega arith

pub right_inside : (a b : ℕ) → Inside b (bit_or a b)
right_inside a b i = let both = bit_at_or a b i in omega arith

pub share_more : (a b c : ℕ) → Share a b → Inside b c → Share a c
share_more a b c h k = (h.0, h.1, (let more = k h.0 in let most = bit_at-lt c h.0 in let here = h.2 in omega arith))

pub not_apart : (a b : ℕ) → Share a b → bit_and a b ≢ 0
not_apart a b h none =
    let both = bit_at_and a b h.0 in
    let first = h.1 in
    let second = h.2 in
    let less : bit_at (bit_and a b) h.0 ≡ 0 = ap (λ n. bit_at n h.0) none ∙ bit_at-zero h.0 in
    omega arith

or_left : (a b i : ℕ) → bit_at a i ≡ 1 → bit_at (bit_or a b) i ≡ 1
or_left a b i h = let both = bit_at_or a b i in let most = bit_at-lt b i in omega arith

or_right : (a b i : ℕ) → bit_at b i ≡ 1 → bit_at (bit_or a b) i ≡ 1
or_right a b i h = let both = bit_at_or a b i in let most = bit_at-lt a i in omega arith

module _ (m : ℕ) (above : 0 < m) (within : m ≤ 64) where
  pub place_below : (f : ℕ) (below : Option ℕ) → place_of m f below < m
  place_below f None = mod-lt (f % 64 * 13) above
  place_below f (Some g) = mod-lt (f % 64 * 13 + g % m + 1) above

  full_at : (f : ℕ) (below : Option ℕ) → bit_at all_marks (place_of m f below) ≡ 1
  full_at f below = bit_at_ones 64 (place_of m f below) (let under = place_below f below in omega arith)

  mark_at : (f : ℕ) (below : Option ℕ) → bit_at (mark_of m f below) (place_of m f below) ≡ 1
  mark_at f below =
      let k = place_of m f below in
      let under = place_below f below in
      let set = bit_at_set_same w64 0 k (omega arith) in
      let both = bit_at_or 0 (mark_of m f below) k in
      let none = bit_at-zero k in
      omega arith

  -- a term that needs any mark meets each offer, and an offer of all of them each need
  pub all_needed : (top : Top) → Share all_marks (offered m top)
  all_needed Any = (place_of m 0 None, full_at 0 None, full_at 0 None)
  all_needed (Over f) = (place_of m f None, full_at f None, full_at f None)
  all_needed (Pair f g) = (place_of m f None, full_at f None, or_right (mark_of m f (Some g)) (mark_of m f None) (place_of m f None) (mark_at f None))
  all_needed (Sole f) = (place_of m f None, full_at f None, mark_at f None)

  pub all_offered : (top : Top) → Share (needed m top) all_marks
  all_offered Any = (place_of m 0 None, full_at 0 None, full_at 0 None)
  all_offered (Over f) = (place_of m f None, mark_at f None, full_at f None)
  all_offered (Pair f g) = (place_of m f (Some g), mark_at f (Some g), full_at f (Some g))
  all_offered (Sole f) = (place_of m f None, mark_at f None, full_at f None)

  pub sole_shared : (f : ℕ) → Share (needed m (Sole f)) (offered m (Sole f))
  sole_shared f = (place_of m f None, mark_at f None, mark_at f None)

  pub over_shared : (f g : ℕ) → Share (needed m (Over f)) (offered m (Pair f g))
  over_shared f g = (place_of m f None, mark_at f None, or_right (mark_of m f (Some g)) (mark_of m f None) (place_of m f None) (mark_at f None))

  pub pair_shared : (f g : ℕ) → Share (needed m (Pair f g)) (offered m (Pair f g))
  pair_shared f g = (place_of m f (Some g), mark_at f (Some g), or_left (mark_of m f (Some g)) (mark_of m f None) (place_of m f (Some g)) (mark_at f (Some g)))

  -- of symbols alone
  pub any_symbol : (o : Option ℕ) → Share all_marks (symbol_marks m o)
  any_symbol None = (place_of m 0 None, full_at 0 None, full_at 0 None)
  any_symbol (Some f) = (place_of m f None, full_at f None, mark_at f None)

  pub symbol_any : (o : Option ℕ) → Share (symbol_marks m o) all_marks
  symbol_any None = (place_of m 0 None, full_at 0 None, full_at 0 None)
  symbol_any (Some f) = (place_of m f None, mark_at f None, full_at f None)

  pub symbol_shared : (o : Option ℕ) → Share (symbol_marks m o) (symbol_marks m o)
  symbol_shared None = (place_of m 0 None, full_at 0 None, full_at 0 None)
  symbol_shared (Some f) = (place_of m f None, mark_at f None, mark_at f None)
