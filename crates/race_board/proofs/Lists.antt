-- Lists with one item changed, and numbers that a list lacks.
use Rattle.std.proofs.Common.{◌≡◌, ◌≢◌, ℕ, ◌<◌, Bool, true, false, List, [], ◌∷◌, ◌++◌, length, map, refl, sym, ap, ◌∙◌, arith, Some, inl, inr, zero, suc, All, get_or}
use Rattle.std.specs.Prelude.{slice_get, slice_set, ◌||◌, ◌==◌}
use Rattle.std.proofs.lemmas.List.Folds.{list_any-append}
use Rattle.std.proofs.lemmas.Bool.Decides.{eqb_tells}
use Rattle.race_core.specs.Standings.{is_listed}
use Rattle.race_board.specs.Calls.{changed}

pub changed-at : {A : Type 0} (f : A → A) (k : ℕ) (xs : List A) (x : A) → k < length xs → x ≡ get_or xs k x → slice_set xs k (f x) ≡ changed f k xs
changed-at f k [] x l e = refl
changed-at f zero (y ∷ xs) x l e = ap (λ q. f q ∷ xs) e
changed-at f (suc k) (y ∷ xs) x l e = ap (λ t. y ∷ t) (changed-at f k xs x (omega arith) e)

pub changed-length : {A : Type 0} (f : A → A) (k : ℕ) (xs : List A) → length (changed f k xs) ≡ length xs
changed-length f k [] = refl
changed-length f zero (x ∷ xs) = refl
changed-length f (suc k) (x ∷ xs) = ap suc (changed-length f k xs)

-- what stands at the place of the change
pub changed-same : {A : Type 0} (f : A → A) (k : ℕ) (xs : List A) (y : A) → slice_get (changed f k xs) k ≡ Some y → (x : A) × ((slice_get xs k ≡ Some x) × (y ≡ f x))
changed-same f zero [] y e = cc
changed-same f (suc k) [] y e = cc
changed-same f zero (x ∷ xs) y e = (x, (refl, cc))
changed-same f (suc k) (x ∷ xs) y e = changed-same f k xs y e

pub changed-other : {A : Type 0} (f : A → A) (k j : ℕ) (xs : List A) → j ≢ k → slice_get (changed f k xs) j ≡ slice_get xs j
changed-other f k j [] apart = refl
changed-other f zero zero (x ∷ xs) apart = absurd (apart refl)
changed-other f zero (suc j) (x ∷ xs) apart = refl
changed-other f (suc k) zero (x ∷ xs) apart = refl
changed-other f (suc k) (suc j) (x ∷ xs) apart = changed-other f k j xs (λ e. apart (ap suc e))

-- what the change leaves alone
pub changed-map : {A B : Type 0} (g : A → B) (f : A → A) (k : ℕ) (xs : List A) → ((x : A) → g (f x) ≡ g x) → map g (changed f k xs) ≡ map g xs
changed-map g f k [] same = refl
changed-map g f zero (x ∷ xs) same = ap (λ y. y ∷ map g xs) (same x)
changed-map g f (suc k) (x ∷ xs) same = ap (λ ys. g x ∷ ys) (changed-map g f k xs same)

or-false : (a b : Bool) → a ≡ false → b ≡ false → (a || b) ≡ false
or-false false false a b = refl
or-false false true a b = b
or-false true b a c = a

one-apart : (x y : ℕ) → y ≢ x → is_listed x (y ∷ []) ≡ false
one-apart x y apart =
    elim (eqb_tells y x) [
      | inl p ↦ absurd (apart p.1)
      | inr p ↦ or-false (y == x) false p.0 refl
    ]

-- a number that none of two lists has
pub unlisted-append : (x : ℕ) (xs ys : List ℕ) → is_listed x xs ≡ false → is_listed x ys ≡ false → is_listed x (xs ++ ys) ≡ false
unlisted-append x xs ys a b =
    list_any-append (λ y. y == x) xs ys ∙ or-false (is_listed x xs) (is_listed x ys) a b

pub unlisted-push : (x y : ℕ) (xs : List ℕ) → y ≢ x → is_listed x xs ≡ false → is_listed x (xs ++ y ∷ []) ≡ false
unlisted-push x y xs apart a = unlisted-append x xs (y ∷ []) a (one-apart x y apart)

-- a number above all of a list
pub unlisted-above : (x : ℕ) (xs : List ℕ) → All (λ i. i < x) xs → is_listed x xs ≡ false
unlisted-above x [] below = refl
unlisted-above x (y ∷ xs) below =
    elim (eqb_tells y x) [
      | inl p ↦ absurd (omega (arith, p.1, below zero y (omega arith)))
      | inr p ↦ or-false (y == x) (is_listed x xs) p.0 (unlisted-above x xs (λ k d within. below (suc k) d (omega (arith, within))))
    ]

-- what indexing reads
pub get-at : {A : Type 0} (xs : List A) (k : ℕ) (x : A) → k < length xs → x ≡ get_or xs k x → slice_get xs k ≡ Some x
get-at [] k x l e = absurd (omega arith)
get-at (y ∷ xs) zero x l e = ap Some (sym e)
get-at (y ∷ xs) (suc k) x l e = get-at xs k x (omega arith) e
