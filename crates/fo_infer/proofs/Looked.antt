-- Terms under a unifier, by what they are at the head.
use Rattle.std.proofs.Common.{◌≡◌, ◌≢◌, ◌↔◌, ◌==◌, ℕ, zero, suc, ◌+◌, ◌<◌, Bool, true, false, IsTrue, List, [], ◌∷◌, map, take, length, get_or, refl, sym, ap, subst, ◌∙◌, arith}
use Rattle.std.proofs.lemmas.List.Sums.{sum_by-cons}
use Rattle.fo_terms.specs.declared.term.FoTerm.{FoTerm}
use Rattle.fo_terms.specs.Substitution.{var, fun, put}
use Rattle.fo_terms.proofs.Heads.{fun_same, fun_no_var, var_same}
use Rattle.fo_terms.proofs.Substitution.{equal_true, equal_from, put_var, put_fun}
use Rattle.fo_order.specs.Counts.{count_of, count_of_all}

module _ (u : ℕ → FoTerm) (t r : FoTerm) (same : put u r ≡ put u t) where
  pub looked_fun : (f : ℕ) (args : List FoTerm) → r ≡ fun f args → put u t ≡ fun f (map (put u) args)
  looked_fun f args is = sym same ∙ ap (put u) is ∙ put_fun u f args

  pub looked_var : ((y : ℕ) → r ≡ var y → u y ≡ var y) → (y : ℕ) → r ≡ var y → put u t ≡ var y
  looked_var free y is = sym same ∙ ap (put u) is ∙ put_var u y ∙ free y is

-- ---- two terms by their heads

module _ (s t : FoTerm) where
  pub same_vars : (x y : ℕ) → s ≡ var x → t ≡ var y → IsTrue (x == y) ↔ (s ≡ t)
  same_vars x y is it = (
    λ e. is ∙ ap var (equal_from x y e) ∙ sym it,
    λ e. (let same : x ≡ y = var_same x y (sym is ∙ e ∙ it) in subst (λ z. IsTrue (x == z)) same (equal_true x)),
  )

  pub var_and_fun : (x g : ℕ) (ys : List FoTerm) → s ≡ var x → t ≡ fun g ys → IsTrue false ↔ (s ≡ t)
  var_and_fun x g ys is it = (λ e. (let clash : false ≡ true = e in cc), λ e. absurd (fun_no_var g x ys (sym it ∙ sym e ∙ is)))

  pub fun_and_var : (y f : ℕ) (xs : List FoTerm) → s ≡ fun f xs → t ≡ var y → IsTrue false ↔ (s ≡ t)
  fun_and_var y f xs is it = (λ e. (let clash : false ≡ true = e in cc), λ e. absurd (fun_no_var f y xs (sym is ∙ e ∙ it)))

  module _ (f g : ℕ) (xs ys : List FoTerm) (is : s ≡ fun f xs) (it : t ≡ fun g ys) where
    pub other_heads : f ≢ g → IsTrue false ↔ (s ≡ t)
    other_heads other = (λ e. (let clash : false ≡ true = e in cc), λ e. absurd (other (fun_same f g xs ys (sym is ∙ e ∙ it)).0))

    pub same_args : f ≡ g → (b : Bool) → IsTrue b ↔ (xs ≡ ys) → IsTrue b ↔ (s ≡ t)
    same_args heads b args = (
      λ e. (let rest = args.0 e in is ∙ (λ i. fun (heads i) (rest i)) ∙ sym it),
      λ e. args.1 (fun_same f g xs ys (sym is ∙ e ∙ it)).1,
    )

-- ---- the images of terms in a list

pub image_at : (h : FoTerm → FoTerm) (ts : List FoTerm) (i : ℕ) (t : FoTerm) → i < length ts → t ≡ get_or ts i t → h t ≡ get_or (map h ts) i (h t)
image_at h [] i t within is = absurd (omega arith)
image_at h (x ∷ ts) zero t within is = ap h is
image_at h (x ∷ ts) (suc i) t within is = image_at h ts i t (omega arith) is

count_one : (u : ℕ → FoTerm) (x : ℕ) (t : FoTerm) (ts : List FoTerm) → count_of_all x (map (put u) (t ∷ ts)) ≡ count_of x (put u t) + count_of_all x (map (put u) ts)
count_one u x t ts = sum_by-cons (λ n. n) (count_of x (put u t)) (map (count_of x) (map (put u) ts))

count_next : (u : ℕ → FoTerm) (x : ℕ) (ts : List FoTerm) (i : ℕ) (t : FoTerm) → i < length ts → t ≡ get_or ts i t
    → count_of_all x (map (put u) (take (suc i) ts)) ≡ count_of_all x (map (put u) (take i ts)) + count_of x (put u t)
count_next u x [] i t within is = absurd (omega arith)
count_next u x (s ∷ ts) zero t within is =
    let same : count_of x (put u t) ≡ count_of x (put u s) = ap (λ r. count_of x (put u r)) is in
    let one : count_of_all x (map (put u) (take (suc zero) (s ∷ ts))) ≡ count_of x (put u s) + count_of_all x (map (put u) []) = count_one u x s [] in
    let none : count_of_all x (map (put u) []) ≡ 0 = refl in
    let start : count_of_all x (map (put u) (take zero (s ∷ ts))) ≡ 0 = refl in
    omega arith
count_next u x (s ∷ ts) (suc i) t within is =
    let inside : i < length ts = omega arith in
    let rest = count_next u x ts i t inside is in
    let one : count_of_all x (map (put u) (take (suc i) (s ∷ ts))) ≡ count_of x (put u s) + count_of_all x (map (put u) (take i ts)) = count_one u x s (take i ts) in
    let two : count_of_all x (map (put u) (take (suc (suc i)) (s ∷ ts))) ≡ count_of x (put u s) + count_of_all x (map (put u) (take (suc i) ts)) = count_one u x s (take (suc i) ts) in
    omega arith

pub count_more : (u : ℕ → FoTerm) (x : ℕ) (ts : List FoTerm) (i : ℕ) (t : FoTerm) → i < length ts → t ≡ get_or ts i t
    → count_of_all x (map (put u) (take (i + 1) ts)) ≡ count_of_all x (map (put u) (take i ts)) + count_of x (put u t)
count_more u x ts i t within is = let next : i + 1 ≡ suc i = omega arith in ap (λ n. count_of_all x (map (put u) (take n ts))) next ∙ count_next u x ts i t within is
