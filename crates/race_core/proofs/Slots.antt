-- One element of a list that is set, and lists of one element repeated.
use Rattle.std.proofs.Common.{◌≡◌, ◌≢◌, ℕ, ◌+◌, ◌<◌, List, [], ◌∷◌, length, refl, sym, ap, ◌∙◌, arith, Some, zero, suc}
use Rattle.std.proofs.lemmas.List.Sums.{sum_by-set}
use Rattle.std.proofs.lemmas.Option.{get_or_from_slice_get, slice_get_within}
use Rattle.std.specs.Prelude.{slice_get, slice_set, sum_by, replicate}

pub get-set-same : {A : Type 0} (xs : List A) (k : ℕ) (y : A) → k < length xs → slice_get (slice_set xs k y) k ≡ Some y
get-set-same [] k y l = absurd (omega arith)
get-set-same (x ∷ xs) zero y l = refl
get-set-same (x ∷ xs) (suc k) y l = get-set-same xs k y (omega arith)

pub get-set-other : {A : Type 0} (xs : List A) (k j : ℕ) (y : A) → j ≢ k → slice_get (slice_set xs k y) j ≡ slice_get xs j
get-set-other [] k j y l = refl
get-set-other (x ∷ xs) zero zero y l = absurd (l refl)
get-set-other (x ∷ xs) zero (suc j) y l = refl
get-set-other (x ∷ xs) (suc k) zero y l = refl
get-set-other (x ∷ xs) (suc k) (suc j) y l = get-set-other xs k j y (λ e. l (ap suc e))

pub sum-set : {A : Type 0} (f : A → ℕ) (xs : List A) (k : ℕ) (x y : A) → slice_get xs k ≡ Some x → sum_by f (slice_set xs k y) + f x ≡ sum_by f xs + f y
sum-set f xs k x y e =
    ap (λ t. sum_by f (slice_set xs k y) + f t) (sym (get_or_from_slice_get xs k x x e)) ∙ sum_by-set f xs k y x (slice_get_within xs k x e)

pub length-replicate : {A : Type 0} (m : ℕ) (x : A) → length (replicate m x) ≡ m
length-replicate zero x = refl
length-replicate (suc m) x = ap suc (length-replicate m x)

pub get-replicate : {A : Type 0} (m k : ℕ) (x y : A) → slice_get (replicate m x) k ≡ Some y → x ≡ y
get-replicate zero k x y e = cc
get-replicate (suc m) zero x y e = cc
get-replicate (suc m) (suc k) x y e = get-replicate m k x y e

pub get-within : {A : Type 0} (xs : List A) (k : ℕ) → k < length xs → (x : A) × (slice_get xs k ≡ Some x)
get-within [] k l = absurd (omega arith)
get-within (x ∷ xs) zero l = (x, refl)
get-within (x ∷ xs) (suc k) l = get-within xs k (omega arith)
