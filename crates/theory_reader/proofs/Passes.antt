-- Tests of all elements of a list.
use Rattle.std.proofs.Common.{◌≡◌, ℕ, zero, suc, ◌∙◌, Bool, true, IsTrue, List, [], ◌∷◌, ◌++◌, take, slice_get, Some, ap, sym, refl}
use Rattle.std.specs.List.{list_all}
use Rattle.std.proofs.lemmas.List.Folds.{list_all-append}
use Rattle.hol_terms.proofs.Both.{both_true, and_true}

module _ {X : Type 0} (p : X → Bool) where
  pub head_passes : (x : X) (xs : List X) → IsTrue (list_all p (x ∷ xs)) → IsTrue (p x)
  head_passes x xs h = (both_true (p x) (list_all p xs) h).0

  pub tail_passes : (x : X) (xs : List X) → IsTrue (list_all p (x ∷ xs)) → IsTrue (list_all p xs)
  tail_passes x xs h = (both_true (p x) (list_all p xs) h).1

  pub passes_at : (xs : List X) (k : ℕ) (x : X) → IsTrue (list_all p xs) → slice_get xs k ≡ Some x → IsTrue (p x)
  passes_at [] k x h e = cc
  passes_at (y ∷ xs) zero x h e = let is : y ≡ x = cc in ap p (sym is) ∙ head_passes y xs h
  passes_at (y ∷ xs) (suc k) x h e = passes_at xs k x (tail_passes y xs h) e

  pub take_passes : (n : ℕ) (xs : List X) → IsTrue (list_all p xs) → IsTrue (list_all p (take n xs))
  take_passes zero xs h = refl
  take_passes (suc n) [] h = refl
  take_passes (suc n) (x ∷ xs) h =
      and_true (p x) (list_all p (take n xs)) (head_passes x xs h) (take_passes n xs (tail_passes x xs h))

  pub both_pass : (xs ys : List X) → IsTrue (list_all p xs) → IsTrue (list_all p ys) → IsTrue (list_all p (xs ++ ys))
  both_pass xs ys h k = list_all-append p xs ys ∙ and_true (list_all p xs) (list_all p ys) h k

  pub one_more_passes : (xs : List X) (x : X) → IsTrue (list_all p xs) → IsTrue (p x) → IsTrue (list_all p (xs ++ x ∷ []))
  one_more_passes xs x h k = both_pass xs (x ∷ []) h (and_true (p x) true k refl)

pub all_weaker : {X : Type 0} (p q : X → Bool) → ((x : X) → IsTrue (p x) → IsTrue (q x)) → (xs : List X) → IsTrue (list_all p xs) →
    IsTrue (list_all q xs)
all_weaker p q w [] h = refl
all_weaker p q w (x ∷ xs) h = and_true (q x) (list_all q xs) (w x (head_passes p x xs h)) (all_weaker p q w xs (tail_passes p x xs h))

pub both_weaker : {X : Type 0} (p q r : X → Bool) → ((x : X) → IsTrue (p x) → IsTrue (q x) → IsTrue (r x)) → (xs : List X) → IsTrue (list_all p xs) →
    IsTrue (list_all q xs) → IsTrue (list_all r xs)
both_weaker p q r w [] h k = refl
both_weaker p q r w (x ∷ xs) h k =
    and_true (r x) (list_all r xs) (w x (head_passes p x xs h) (head_passes q x xs k))
    (both_weaker p q r w xs (tail_passes p x xs h) (tail_passes q x xs k))
