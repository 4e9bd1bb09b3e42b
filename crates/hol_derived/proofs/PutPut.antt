-- A variable put for an index, and terms put for others, in either order.
use Rattle.std.proofs.Common.{◌≡◌, ℕ, ◌+◌, ◌-◌, ◌<◌, ap, refl, sym, ◌∙◌, rules, arith}
use Rattle.hol_terms.specs.declared.ty.Ty.{Ty}
use Rattle.hol_terms.specs.declared.konst.Konst.{Konst}
use Rattle.hol_terms.specs.declared.term.Term.{Term, roll-Term}
use Rattle.hol_terms.specs.declared.term.Term.TheOpen.{Term-F}
use Rattle.hol_terms.specs.declared.term.Term.TheFolds.{the_lemmas}
use Rattle.hol_terms.specs.Substitution.{lift, put}
use Rattle.hol_terms.proofs.TermCases.{by_cases}
use Rattle.hol_terms.proofs.Equations.{lift-app, lift-lam, lift-free, put-app, put-lam, put-free}
use Rattle.kernel_rules.specs.Connectives.{apply, lambda}

abbrev pub bound : ℕ → Term
bound i = roll-Term (Term-F.Bound i)

pub put_below : (u : Term) (i k : ℕ) → i < k → put u (bound i) k ≡ bound i
put_below u i k h = search (rules, the_lemmas)

pub put_here : (u : Term) (i k : ℕ) → i ≡ k → put u (bound i) k ≡ lift k u 0
put_here u i k h = search (rules, the_lemmas)

pub put_above : (u : Term) (i k : ℕ) → k < i → put u (bound i) k ≡ bound (i - 1)
put_above u i k h = search (rules, the_lemmas)

lift_below : (by i k : ℕ) → i < k → lift by (bound i) k ≡ bound i
lift_below by i k h = search (rules, the_lemmas)

lift_above : (by i k j : ℕ) → k < i + 1 → j ≡ i + by → lift by (bound i) k ≡ bound j
lift_above by i k j h e = search (rules, the_lemmas)

module _ (n : ℕ) (a : Ty) where
  abbrev v : Term
  v = roll-Term (Term-F.Free n a)

  -- the variable stays itself
  pub put_v : (i k : ℕ) → i ≡ k → put v (bound i) k ≡ v
  put_v i k h = put_here v i k h ∙ lift-free k n a 0

  abbrev Lifts : Term → Type 0
  Lifts w = (j k m p q : ℕ) → p ≡ m + j + k → q ≡ m + k → put v (lift j w m) p ≡ lift j (put v w q) m

  lifts_low : (i j k m p q : ℕ) → p ≡ m + j + k → q ≡ m + k → i < m → put v (lift j (bound i) m) p ≡ lift j (put v (bound i) q) m
  lifts_low i j k m p q e f h =
      ap (λ t. put v t p) (lift_below j i m h) ∙ put_below v i p (omega arith) ∙ sym (lift_below j i m h) ∙ ap (λ t. lift j t m) (sym (put_below v i q (omega arith)))

  lifts_mid : (i j k m p q : ℕ) → p ≡ m + j + k → q ≡ m + k → m < i + 1 → i < q → put v (lift j (bound i) m) p ≡ lift j (put v (bound i) q) m
  lifts_mid i j k m p q e f h g =
      ap (λ t. put v t p) (lift_above j i m (i + j) h refl) ∙ put_below v (i + j) p (omega arith) ∙ sym (lift_above j i m (i + j) h refl)
      ∙ ap (λ t. lift j t m) (sym (put_below v i q g))

  lifts_here : (i j k m p q : ℕ) → p ≡ m + j + k → q ≡ m + k → m < i + 1 → i ≡ q → put v (lift j (bound i) m) p ≡ lift j (put v (bound i) q) m
  lifts_here i j k m p q e f h g =
      ap (λ t. put v t p) (lift_above j i m (i + j) h refl) ∙ put_v (i + j) p (omega arith) ∙ sym (lift-free j n a m)
      ∙ ap (λ t. lift j t m) (sym (put_v i q g))

  lifts_high : (i j k m p q : ℕ) → p ≡ m + j + k → q ≡ m + k → m < i + 1 → q < i → put v (lift j (bound i) m) p ≡ lift j (put v (bound i) q) m
  lifts_high i j k m p q e f h g =
      ap (λ t. put v t p) (lift_above j i m (i + j) h refl) ∙ put_above v (i + j) p (omega arith)
      ∙ sym (lift_above j (i - 1) m (i + j - 1) (omega arith) (omega arith)) ∙ ap (λ t. lift j t m) (sym (put_above v i q g))

  lifts_bound : (i : ℕ) → Lifts (bound i)
  lifts_bound i j k m p q e f = grind (arith, lifts_low i j k m p q e f, lifts_mid i j k m p q e f, lifts_here i j k m p q e f, lifts_high i j k m p q e f)

  lifts_free : (l : ℕ) (b : Ty) → Lifts (roll-Term (Term-F.Free l b))
  lifts_free l b j k m p q e f = search (rules, the_lemmas)

  lifts_con : (c : Konst) → Lifts (roll-Term (Term-F.Con c))
  lifts_con c j k m p q e f = search (rules, the_lemmas)

  lifts_app : (f x : Term) → Lifts f → Lifts x → Lifts (apply f x)
  lifts_app g x hg hx j k m p q e f =
      ap (λ t. put v t p) (lift-app j g x m) ∙ put-app v (lift j g m) (lift j x m) p ∙ (λ i. apply (hg j k m p q e f i) (hx j k m p q e f i))
      ∙ sym (lift-app j (put v g q) (put v x q) m) ∙ ap (λ t. lift j t m) (sym (put-app v g x q))

  lifts_lam : (b : Ty) (t : Term) → Lifts t → Lifts (lambda b t)
  lifts_lam b t ht j k m p q e f =
      ap (λ z. put v z p) (lift-lam j b t m) ∙ put-lam v b (lift j t (m + 1)) p ∙ ap (lambda b) (ht j k (m + 1) (p + 1) (q + 1) (omega arith) (omega arith))
      ∙ sym (lift-lam j b (put v t (q + 1)) m) ∙ ap (λ z. lift j z m) (sym (put-lam v b t q))

  pub put_lift : (w : Term) → Lifts w
  put_lift w = by_cases Lifts lifts_bound lifts_free lifts_con lifts_app lifts_lam w

  module _ (w : Term) where
    abbrev Swaps : Term → Type 0
    Swaps t = (j k p q : ℕ) → p ≡ j + k → q ≡ j + k + 1 → put v (put w t j) p ≡ put (put v w k) (put v t q) j

    swaps_low : (i j k p q : ℕ) → p ≡ j + k → q ≡ j + k + 1 → i < j → put v (put w (bound i) j) p ≡ put (put v w k) (put v (bound i) q) j
    swaps_low i j k p q e f h =
        ap (λ t. put v t p) (put_below w i j h) ∙ put_below v i p (omega arith) ∙ sym (put_below (put v w k) i j h) ∙ ap (λ t. put (put v w k) t j) (sym (put_below v i q (omega arith)))

    swaps_here : (i j k p q : ℕ) → p ≡ j + k → q ≡ j + k + 1 → i ≡ j → put v (put w (bound i) j) p ≡ put (put v w k) (put v (bound i) q) j
    swaps_here i j k p q e f h =
        ap (λ t. put v t p) (put_here w i j h) ∙ put_lift w j k 0 p k (omega arith) (omega arith) ∙ sym (put_here (put v w k) i j h)
        ∙ ap (λ t. put (put v w k) t j) (sym (put_below v i q (omega arith)))

    swaps_mid : (i j k p q : ℕ) → p ≡ j + k → q ≡ j + k + 1 → j < i → i < q → put v (put w (bound i) j) p ≡ put (put v w k) (put v (bound i) q) j
    swaps_mid i j k p q e f h g =
        ap (λ t. put v t p) (put_above w i j h) ∙ put_below v (i - 1) p (omega arith) ∙ sym (put_above (put v w k) i j h) ∙ ap (λ t. put (put v w k) t j) (sym (put_below v i q g))

    swaps_top : (i j k p q : ℕ) → p ≡ j + k → q ≡ j + k + 1 → i ≡ q → put v (put w (bound i) j) p ≡ put (put v w k) (put v (bound i) q) j
    swaps_top i j k p q e f h =
        ap (λ t. put v t p) (put_above w i j (omega arith)) ∙ put_v (i - 1) p (omega arith) ∙ sym (put-free (put v w k) n a j) ∙ ap (λ t. put (put v w k) t j) (sym (put_v i q h))

    swaps_high : (i j k p q : ℕ) → p ≡ j + k → q ≡ j + k + 1 → q < i → put v (put w (bound i) j) p ≡ put (put v w k) (put v (bound i) q) j
    swaps_high i j k p q e f h =
        ap (λ t. put v t p) (put_above w i j (omega arith)) ∙ put_above v (i - 1) p (omega arith) ∙ sym (put_above (put v w k) (i - 1) j (omega arith))
        ∙ ap (λ t. put (put v w k) t j) (sym (put_above v i q h))

    swaps_bound : (i : ℕ) → Swaps (bound i)
    swaps_bound i j k p q e f = grind (arith, swaps_low i j k p q e f, swaps_here i j k p q e f, swaps_mid i j k p q e f, swaps_top i j k p q e f, swaps_high i j k p q e f)

    swaps_free : (l : ℕ) (b : Ty) → Swaps (roll-Term (Term-F.Free l b))
    swaps_free l b j k p q e f = search (rules, the_lemmas)

    swaps_con : (c : Konst) → Swaps (roll-Term (Term-F.Con c))
    swaps_con c j k p q e f = search (rules, the_lemmas)

    swaps_app : (f x : Term) → Swaps f → Swaps x → Swaps (apply f x)
    swaps_app g x hg hx j k p q e f =
        ap (λ t. put v t p) (put-app w g x j) ∙ put-app v (put w g j) (put w x j) p ∙ (λ i. apply (hg j k p q e f i) (hx j k p q e f i))
        ∙ sym (put-app (put v w k) (put v g q) (put v x q) j) ∙ ap (λ t. put (put v w k) t j) (sym (put-app v g x q))

    swaps_lam : (b : Ty) (t : Term) → Swaps t → Swaps (lambda b t)
    swaps_lam b t ht j k p q e f =
        ap (λ z. put v z p) (put-lam w b t j) ∙ put-lam v b (put w t (j + 1)) p ∙ ap (lambda b) (ht (j + 1) k (p + 1) (q + 1) (omega arith) (omega arith))
        ∙ sym (put-lam (put v w k) b (put v t (q + 1)) j) ∙ ap (λ z. put (put v w k) z j) (sym (put-lam v b t q))

    pub put_put : (t : Term) → Swaps t
    put_put t = by_cases Swaps swaps_bound swaps_free swaps_con swaps_app swaps_lam t
