-- The first item of a list that passes a test, in longer lists.
use Rattle.std.proofs.Common.{◌≡◌, ℕ, suc, ◌+◌, ◌<◌, Bool, true, false, ◌||◌, not, cond, List, [], ◌∷◌, ◌++◌, length, refl, sym, ap, ◌∙◌, arith, if◌then◌else◌, append_assoc}
use Rattle.std.specs.List.{list_any, position_or_len}
use Rattle.std.proofs.lemmas.List.{append-nil}
use Rattle.std.proofs.lemmas.List.Folds.{list_any-append}

pub or_true : (a b : Bool) → b ≡ true → (a || b) ≡ true
or_true true b h = refl
or_true false b h = h

any_step : (b r : Bool) (m n : ℕ) → (b || r) ≡ true → (r ≡ true → m ≡ n) → cond (not b) (1 + m) 0 ≡ cond (not b) (1 + n) 0
any_step true r m n h k = refl
any_step false r m n h k = ap (λ z. 1 + z) (k h)

none_step : (b r : Bool) (m n : ℕ) → (b || r) ≡ false → (r ≡ false → m ≡ n) → cond (not b) (1 + m) 0 ≡ cond (not b) (1 + n) 0
none_step true r m n h k = refl
none_step false r m n h k = ap (λ z. 1 + z) (k h)

within_step : (b r : Bool) (m n : ℕ) → (b || r) ≡ true → (r ≡ true → m < n) → cond (not b) (1 + m) 0 < suc n
within_step true r m n h k = omega arith
within_step false r m n h k = let less = k h in omega arith

is_step : (b r : Bool) (m n : ℕ) → cond (not b) (1 + m) 0 < suc n → (m < n → r ≡ true) → (b || r) ≡ true
is_step true r m n h k = refl
is_step false r m n h k = k (omega arith)

length_step : (b r : Bool) (m n : ℕ) → (b || r) ≡ false → (r ≡ false → m ≡ n) → cond (not b) (1 + m) 0 ≡ suc n
length_step true r m n h k = cc
length_step false r m n h k = let same = k h in omega arith

module _ {X : Type 0} (p : X → Bool) where
  pub any_stays : (xs more : List X) → list_any p xs ≡ true → position_or_len p (xs ++ more) ≡ position_or_len p xs
  any_stays [] more h = cc
  any_stays (x ∷ xs) more h = any_step (p x) (list_any p xs) (position_or_len p (xs ++ more)) (position_or_len p xs) h (any_stays xs more)

  pub none_stays : (xs : List X) (x : X) (more : List X) → list_any p xs ≡ false → p x ≡ true → position_or_len p (xs ++ x ∷ more) ≡ position_or_len p xs
  none_stays [] x more h px = ap (λ b. cond (not b) (1 + position_or_len p more) 0) px
  none_stays (y ∷ xs) x more h px = none_step (p y) (list_any p xs) (position_or_len p (xs ++ x ∷ more)) (position_or_len p xs) h (λ k. none_stays xs x more k px)

  pub none_length : (xs : List X) → list_any p xs ≡ false → position_or_len p xs ≡ length xs
  none_length [] h = refl
  none_length (x ∷ xs) h = length_step (p x) (list_any p xs) (position_or_len p xs) (length xs) h (none_length xs)

  pub any_within : (xs : List X) → list_any p xs ≡ true → position_or_len p xs < length xs
  any_within [] h = cc
  any_within (x ∷ xs) h = within_step (p x) (list_any p xs) (position_or_len p xs) (length xs) h (any_within xs)

  pub within_any : (xs : List X) → position_or_len p xs < length xs → list_any p xs ≡ true
  within_any [] h = absurd (omega arith)
  within_any (x ∷ xs) h = is_step (p x) (list_any p xs) (position_or_len p xs) (length xs) h (within_any xs)

  -- with the item behind the others where none of them passes
  abbrev pub noted : X → List X → List X
  noted x xs = if list_any p xs then xs else xs ++ x ∷ []

  pub noted_more : (x : X) (xs : List X) → (m : List X) × (noted x xs ≡ xs ++ m)
  noted_more x xs = by (list_any p xs)
    where
      by : (b : Bool) → (m : List X) × ((if b then xs else xs ++ x ∷ []) ≡ xs ++ m)
      by true = ([], sym (append-nil xs))
      by false = (x ∷ [], refl)

  module _ (x : X) (passes : p x ≡ true) (xs more : List X) where
    stays_by : (b : Bool) → list_any p xs ≡ b → position_or_len p ((if b then xs else xs ++ x ∷ []) ++ more) ≡ position_or_len p xs
    stays_by true h = any_stays xs more h
    stays_by false h = ap (position_or_len p) (append_assoc xs (x ∷ []) more) ∙ none_stays xs x more h passes

    -- the item's place stays
    pub stays : position_or_len p (noted x xs ++ more) ≡ position_or_len p xs
    stays = stays_by (list_any p xs) refl

    any_by : (b : Bool) → list_any p xs ≡ b → list_any p (if b then xs else xs ++ x ∷ []) ≡ true
    any_by true h = h
    any_by false h = list_any-append p xs (x ∷ []) ∙ or_true (list_any p xs) (p x || false) (ap (λ b. b || false) passes)

    pub any_noted : list_any p (noted x xs) ≡ true
    any_noted = any_by (list_any p xs) refl

    -- and is one
    pub within : position_or_len p xs < length (noted x xs ++ more)
    within =
        let any : list_any p (noted x xs ++ more) ≡ true = list_any-append p (noted x xs) more ∙ ap (λ b. b || list_any p more) any_noted in
        let less = any_within (noted x xs ++ more) any in
        let same = stays in
        omega arith
