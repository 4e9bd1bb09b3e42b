-- The first place that passes, in a list put behind another.
use Rattle.std.proofs.Common.{◌≡◌, ℕ, ◌+◌, ◌<◌, ◌∙◌, Bool, true, false, List, [], ◌∷◌, ◌++◌, length, Some, None, ap, sym, refl, arith}
use Rattle.std.specs.List.{position, position_from}
use Rattle.std.proofs.lemmas.Iterator.Adapters.{position_from-zero}

module _ {X : Type 0} (p : X → Bool) where
  -- a place lies within the list
  within_step : (i : ℕ) (x : X) (xs : List X) (k : ℕ) (b : Bool) → p x ≡ b → position_from p i (x ∷ xs) ≡ Some k →
      (position_from p (i + 1) xs ≡ Some k → k < i + 1 + length xs) → k < i + length (x ∷ xs)
  within_step i x xs k true e h rest = let same : Some i ≡ Some k = rw e at h in let is : i ≡ k = cc in omega arith
  within_step i x xs k false e h rest = let l = rest (rw e at h) in omega arith

  from_within : (i : ℕ) (xs : List X) (k : ℕ) → position_from p i xs ≡ Some k → k < i + length xs
  from_within i [] k h = cc
  from_within i (x ∷ xs) k h = within_step i x xs k (p x) refl h (from_within (i + 1) xs k)

  pub place_within : (xs : List X) (k : ℕ) → position p xs ≡ Some k → k < length xs
  place_within xs k h = let l = from_within 0 xs k (sym (position_from-zero p xs) ∙ h) in omega arith

  before_step : (i : ℕ) (x : X) (xs ys : List X) (k : ℕ) (b : Bool) → p x ≡ b → position_from p i (x ∷ xs) ≡ Some k →
      (position_from p (i + 1) xs ≡ Some k → position_from p (i + 1) (xs ++ ys) ≡ Some k) → position_from p i ((x ∷ xs) ++ ys) ≡ Some k
  before_step i x xs ys k true e h rest = let here : Some i ≡ Some k = rw e at h in rw e here
  before_step i x xs ys k false e h rest = let there = rest (rw e at h) in rw e there

  found_before : (i : ℕ) (xs ys : List X) (k : ℕ) → position_from p i xs ≡ Some k → position_from p i (xs ++ ys) ≡ Some k
  found_before i [] ys k h = cc
  found_before i (x ∷ xs) ys k h = before_step i x xs ys k (p x) refl h (found_before (i + 1) xs ys k)

  behind_step : (i : ℕ) (x : X) (xs ys : List X) (b : Bool) → p x ≡ b → position_from p i (x ∷ xs) ≡ None →
      (position_from p (i + 1) xs ≡ None → position_from p (i + 1) (xs ++ ys) ≡ position_from p (i + 1 + length xs) ys) →
      position_from p i ((x ∷ xs) ++ ys) ≡ position_from p (i + length (x ∷ xs)) ys
  behind_step i x xs ys true e h rest = let here : Some i ≡ None = rw e at h in cc
  behind_step i x xs ys false e h rest =
      let there = rest (rw e at h) in
      let same : i + 1 + length xs ≡ i + length (x ∷ xs) = omega arith in
      rw e (there ∙ ap (λ n. position_from p n ys) same)

  found_behind : (i : ℕ) (xs ys : List X) → position_from p i xs ≡ None → position_from p i (xs ++ ys) ≡ position_from p (i + length xs) ys
  found_behind i [] ys h = let same : i ≡ i + 0 = omega arith in ap (λ n. position_from p n ys) same
  found_behind i (x ∷ xs) ys h = behind_step i x xs ys (p x) refl h (found_behind (i + 1) xs ys)

  -- places counted from another number
  shift_step : (i j : ℕ) (y : X) (ys : List X) (k : ℕ) (b : Bool) → p y ≡ b → position_from p j (y ∷ ys) ≡ Some k →
      (position_from p (j + 1) ys ≡ Some k → position_from p (i + (j + 1)) ys ≡ Some (i + k)) → position_from p (i + j) (y ∷ ys) ≡ Some (i + k)
  shift_step i j y ys k true e h rest =
      let here : Some j ≡ Some k = rw e at h in let is : j ≡ k = cc in rw e (ap (λ n. Some (i + n)) is)
  shift_step i j y ys k false e h rest =
      let there = rest (rw e at h) in
      let same : i + j + 1 ≡ i + (j + 1) = omega arith in
      rw e (ap (λ n. position_from p n ys) same ∙ there)

  shift : (i j : ℕ) (ys : List X) (k : ℕ) → position_from p j ys ≡ Some k → position_from p (i + j) ys ≡ Some (i + k)
  shift i j [] k h = cc
  shift i j (y ∷ ys) k h = shift_step i j y ys k (p y) refl h (shift i (j + 1) ys k)

  none_step : (i j : ℕ) (y : X) (ys : List X) (b : Bool) → p y ≡ b → position_from p j (y ∷ ys) ≡ None →
      (position_from p (j + 1) ys ≡ None → position_from p (i + 1) ys ≡ None) → position_from p i (y ∷ ys) ≡ None
  none_step i j y ys true e h rest = let here : Some j ≡ None = rw e at h in cc
  none_step i j y ys false e h rest = let there = rest (rw e at h) in rw e there

  shift_none : (i j : ℕ) (ys : List X) → position_from p j ys ≡ None → position_from p i ys ≡ None
  shift_none i j [] h = refl
  shift_none i j (y ∷ ys) h = none_step i j y ys (p y) refl h (shift_none (i + 1) (j + 1) ys)

  pub place_in_front : (xs ys : List X) (k : ℕ) → position p xs ≡ Some k → position p (xs ++ ys) ≡ Some k
  place_in_front xs ys k h = position_from-zero p (xs ++ ys) ∙ found_before 0 xs ys k (sym (position_from-zero p xs) ∙ h)

  pub place_behind : (xs ys : List X) (k : ℕ) → position p xs ≡ None → position p ys ≡ Some k → position p (xs ++ ys) ≡ Some (length xs + k)
  place_behind xs ys k h g =
      let front = found_behind 0 xs ys (sym (position_from-zero p xs) ∙ h) in
      let back = shift (length xs) 0 ys k (sym (position_from-zero p ys) ∙ g) in
      let same : 0 + length xs ≡ length xs + 0 = omega arith in
      position_from-zero p (xs ++ ys) ∙ front ∙ ap (λ n. position_from p n ys) same ∙ back

  pub place_nowhere : (xs ys : List X) → position p xs ≡ None → position p ys ≡ None → position p (xs ++ ys) ≡ None
  place_nowhere xs ys h g =
      position_from-zero p (xs ++ ys) ∙ found_behind 0 xs ys (sym (position_from-zero p xs) ∙ h) ∙
      shift_none (0 + length xs) 0 ys (sym (position_from-zero p ys) ∙ g)
