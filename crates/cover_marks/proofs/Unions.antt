-- The least word that several words are within.
use Rattle.std.proofs.Common.{◌≡◌, ℕ, ◌≤◌, List, [], ◌∷◌, ◌++◌, length, All, Any, refl, ap, subst, arith}
use Rattle.std.specs.Prelude.{bit_or}
use Rattle.std.specs.Int.{bit_at}
use Rattle.std.proofs.lemmas.Nat.Bits.{bit_at-zero, bit_at_or, same_from_bits}
use Rattle.std.proofs.lemmas.List.{length_push, get_or_append_left, get_or_push}
use Rattle.std.proofs.lemmas.List.Elements.{All-push, All-weaker}
use Rattle.cover_marks.specs.Cover.{IsWithin, MayCover}
use Rattle.cover_marks.specs.inner.Union.{IsUnion}

-- by their bits
less : (m n : ℕ) → IsWithin m n → (i : ℕ) → bit_at m i ≤ bit_at n i
less m n h i = let both = bit_at_or m n i in let same : bit_at (bit_or m n) i ≡ bit_at n i = ap (λ k. bit_at k i) h in omega arith

within_from : (m n : ℕ) → ((i : ℕ) → bit_at m i ≤ bit_at n i) → IsWithin m n
within_from m n h = same_from_bits (bit_or m n) n (λ i. let both = bit_at_or m n i in let bound = h i in omega arith)

within_first : (m a w : ℕ) → IsWithin m a → IsWithin m (bit_or a w)
within_first m a w h = within_from m (bit_or a w) (λ i. let bound = less m a h i in let both = bit_at_or a w i in omega arith)

within_second : (a w : ℕ) → IsWithin w (bit_or a w)
within_second a w = within_from w (bit_or a w) (λ i. let both = bit_at_or a w i in omega arith)

within_both : (a w n : ℕ) → IsWithin a n → IsWithin w n → IsWithin (bit_or a w) n
within_both a w n h k = within_from (bit_or a w) n (λ i. let left = less a n h i in let right = less w n k i in let both = bit_at_or a w i in omega arith)

within_more : (m n k : ℕ) → IsWithin m n → IsWithin n k → IsWithin m k
within_more m n k h g = within_from m k (λ i. let left = less m n h i in let right = less n k g i in omega arith)

front : (P : ℕ → Type 0) (xs : List ℕ) (x : ℕ) → All P (xs ++ x ∷ []) → All P xs
front P xs x h k d inside = subst P (get_or_append_left xs (x ∷ []) d k inside) (h k d (let size = length_push xs x in omega arith))

last : (P : ℕ → Type 0) (xs : List ℕ) (x : ℕ) → All P (xs ++ x ∷ []) → P x
last P xs x h = subst P (get_or_push xs x 0 (length xs) refl) (h (length xs) 0 (let size = length_push xs x in omega arith))

pub no_union : IsUnion [] 0
no_union = record {
  over = λ k d inside. absurd (omega arith);
  least = λ n h. within_from 0 n (λ i. let none = bit_at-zero i in omega arith);
}

pub union_more : (words : List ℕ) (w all : ℕ) → IsUnion words all → IsUnion (words ++ w ∷ []) (bit_or all w)
union_more words w all held = record {
  over = All-push (λ m. IsWithin m (bit_or all w)) words w (All-weaker (λ m. IsWithin m all) (λ m. IsWithin m (bit_or all w)) (λ m h. within_first m all w h) words held.over) (within_second all w);
  least = λ n h. within_both all w n (held.least n (front (λ m. IsWithin m n) words w h)) (last (λ m. IsWithin m n) words w h);
}

-- where the one may cover the other, its marks together are within the other's
pub covered_union : (p q : List ℕ) (a b : ℕ) → IsUnion p a → IsUnion q b → MayCover p q → IsWithin a b
covered_union p q a b left right covers = left.least b (All-weaker (λ m. Any (IsWithin m) q) (λ m. IsWithin m b) some p covers.1)
  where
    some : (m : ℕ) → Any (IsWithin m) q → IsWithin m b
    some m any = within_more m any.1 b any.4 (subst (λ n. IsWithin n b) any.3 (right.over any.0 any.1 any.2))
