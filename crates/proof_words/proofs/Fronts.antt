-- What two words have in common at their fronts.
use Rattle.std.proofs.Common.{◌≡◌, ◌⊎◌, inl, inr, ℕ, zero, suc, ◌+◌, ◌<◌, ◌≤◌, max, nat_eq, Bool, true, false, List, [], ◌∷◌, length, take, drop, refl, sym, ap, subst, ◌∙◌, arith, rules}
use Rattle.std.specs.List.{common_prefix_len}
use Rattle.std.proofs.lemmas.Bool.{cases_lt}
use Rattle.std.proofs.lemmas.List.{drop_all}
use Rattle.std.proofs.lemmas.List.Sums.{common_prefix_len-le}
use Rattle.proof_words.specs.Sharing.{Shares, IsOneOf}
use Rattle.proof_words.specs.inner.Steps.{most_shared}

abbrev both : List ℕ → List ℕ → ℕ
both w v = common_prefix_len nat_eq w v

module _ (x y : ℕ) (w v : List ℕ) where
  both_same : nat_eq x y ≡ true → both (x ∷ w) (y ∷ v) ≡ suc (both w v)
  both_same e = rw e (omega arith)

  both_other : nat_eq x y ≡ false → both (x ∷ w) (y ∷ v) ≡ 0
  both_other e = rw e refl

is_equal : (x y : ℕ) → nat_eq x y ≡ true → x ≡ y
is_equal x y e = search (rules, e)

are_equal : (x y : ℕ) → x ≡ y → nat_eq x y ≡ true
are_equal x y e = search (rules, e)

shared_step : (x y : ℕ) (w v : List ℕ) (b : Bool) → nat_eq x y ≡ b → take (both w v) v ≡ take (both w v) w → take (both (x ∷ w) (y ∷ v)) (y ∷ v) ≡ take (both (x ∷ w) (y ∷ v)) (x ∷ w)
shared_step x y w v true e h =
    let n = both_same x y w v e in
    let head = is_equal x y e in
    ap (λ k. take k (y ∷ v)) n ∙ ap (λ z. z ∷ take (both w v) v) (sym head) ∙ ap (λ zs. x ∷ zs) h ∙ ap (λ k. take k (x ∷ w)) (sym n)
shared_step x y w v false e h = let n = both_other x y w v e in ap (λ k. take k (y ∷ v)) n ∙ ap (λ k. take k (x ∷ w)) (sym n)

none_shared : (w : List ℕ) → both w [] ≡ 0
none_shared [] = refl
none_shared (x ∷ w) = refl

-- behind the other word's end
pub ended : (w v : List ℕ) (at : ℕ) → length v ≤ at → both (drop at w) (drop at v) ≡ 0
ended w v at past = ap (λ z. both (drop at w) z) (drop_all at v past) ∙ none_shared (drop at w)

-- as many bytes are those of the other word
pub shared_take : (w v : List ℕ) → take (both w v) v ≡ take (both w v) w
shared_take [] v = refl
shared_take (x ∷ w) [] = refl
shared_take (x ∷ w) (y ∷ v) = shared_step x y w v (nat_eq x y) refl (shared_take w v)

head_same : (x y : ℕ) (xs ys : List ℕ) → x ∷ xs ≡ y ∷ ys → x ≡ y
head_same x y xs ys e = cc

tail_same : (x y : ℕ) (xs ys : List ℕ) → x ∷ xs ≡ y ∷ ys → xs ≡ ys
tail_same x y xs ys e = cc

-- no more bytes are those of another word
shared_all : (n : ℕ) (w v : List ℕ) → (v ≡ w → ⊥) → take (suc n) v ≡ take (suc n) w → n < both w v
shared_all n [] [] other same = absurd (other refl)
shared_all n [] (y ∷ v) other same = cc
shared_all n (x ∷ w) [] other same = cc
shared_all zero (x ∷ w) (y ∷ v) other same =
    let more = both_same x y w v (are_equal x y (sym (head_same y x [] [] same))) in omega arith
shared_all (suc n) (x ∷ w) (y ∷ v) other same =
    let head = head_same y x (take (suc n) v) (take (suc n) w) same in
    let tail = tail_same y x (take (suc n) v) (take (suc n) w) same in
    let inner = shared_all n w v (λ e. other (ap (λ z. z ∷ v) head ∙ ap (λ zs. x ∷ zs) e)) tail in
    let more = both_same x y w v (are_equal x y (sym head)) in
    omega arith

pub shared_most : (n : ℕ) (w v : List ℕ) → (v ≡ w → ⊥) → take (n + 1) v ≡ take (n + 1) w → n < both w v
shared_most n w v other same = let e : n + 1 ≡ suc n = omega arith in shared_all n w v other (subst (λ k. take k v ≡ take k w) e same)

-- ---- among words

most_room : (w : List ℕ) (words : List (List ℕ)) → most_shared w words ≤ length w
most_room w [] = omega arith
most_room w (v ∷ words) = let here = (common_prefix_len-le nat_eq w v).0 in let more = most_room w words in omega arith

most_some : (w : List ℕ) (words : List (List ℕ)) → (most_shared w words ≡ 0) ⊎ ((v : List ℕ) × IsOneOf words v × (take (most_shared w words) v ≡ take (most_shared w words) w))
most_some w [] = inl refl
most_some w (v ∷ words) = elim (cases_lt (both w v) (most_shared w words)) [
  | inl less ↦
      let is : most_shared w words ≡ max (both w v) (most_shared w words) = omega arith in
      subst (λ n. (n ≡ 0) ⊎ ((u : List ℕ) × IsOneOf (v ∷ words) u × (take n u ≡ take n w))) is
      (elim (most_some w words) [ inl none ↦ inl none | inr s ↦ inr (s.0, inr s.1, s.2) ])
  | inr more ↦
      let is : both w v ≡ max (both w v) (most_shared w words) = omega arith in
      subst (λ n. (n ≡ 0) ⊎ ((u : List ℕ) × IsOneOf (v ∷ words) u × (take n u ≡ take n w))) is (inr (v, inl refl, shared_take w v))
]

most_each : (w v : List ℕ) (words : List (List ℕ)) → IsOneOf words v → both w v ≤ most_shared w words
most_each w v [] is = absurd is
most_each w v (u ∷ words) (inl e) = let same = ap (λ z. both w z) e in omega arith
most_each w v (u ∷ words) (inr more) = let h = most_each w v words more in omega arith

pub shares : (w : List ℕ) (words : List (List ℕ)) → (IsOneOf words w → ⊥) → Shares (IsOneOf words) w (most_shared w words)
shares w words none = record {
  room = most_room w words;
  some = most_some w words;
  most = λ v is same.
      let more = shared_most (most_shared w words) w v (λ e. none (subst (λ z. IsOneOf words z) e is)) same in
      let least = most_each w v words is in
      omega arith;
}
