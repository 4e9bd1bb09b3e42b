-- What the first value found tells of a quantifier and of `Eps`.
use Rattle.std.proofs.Common.{◌≡◌, ◌≢◌, inl, inr, ℕ, zero, suc, ◌<◌, Bool, true, false, ◌||◌, ◌==◌, if◌then◌else◌, refl, sym, ◌∙◌, ap, subst, arith, Some, None}
use Rattle.std.specs.Prelude.{Option}
use Rattle.hol_terms.specs.declared.konst.Konst.{Konst}
use Rattle.hol_terms.specs.declared.konst.Konst.TheVariants as konst
use Rattle.hol_terms.specs.Types.{bool_ty}
use Rattle.model_truth.specs.declared.model.Model.{Model}
use Rattle.model_truth.specs.Numbers.{digit, every_below, some_below, least_below}
use Rattle.model_truth.specs.Sizes.{size}
use Rattle.model_truth.specs.Values.{truth, holds_at}
use Rattle.model_truth.proofs.Digits.{each_every, every_each, one_some, below_suc}
use Rattle.fin_model.specs.inner.Seeking.{IsFirst}
use Rattle.fin_model.specs.inner.Constants.{test_of, one_of, bound_ty, sought, told}

not_false : (b : Bool) → b ≢ false → b ≡ true
not_false true h = refl
not_false false h = absurd (h refl)

true_or : (b : Bool) → (b ≡ true → ⊥) → b ≡ false
true_or true h = absurd (h refl)
true_or false h = refl

differ : (b : Bool) → b ≡ true → b ≡ false → ⊥
differ b h k = cc

wider : (n : ℕ) (p : ℕ → Bool) → (a : ℕ) × ((a < n) × (p a ≡ true)) → (a : ℕ) × ((a < suc n) × (p a ≡ true))
wider n p e = (e.0, (more e.0 e.1.0, e.1.1))
  where
    more : (a : ℕ) → a < n → a < suc n
    more a h = omega arith

here : (n : ℕ) (p : ℕ → Bool) → p n ≡ true → (a : ℕ) × ((a < suc n) × (p a ≡ true))
here n p h = (n, (self n, h))
  where
    self : (a : ℕ) → a < suc a
    self a = omega arith

some_from : (n : ℕ) (p : ℕ → Bool) (b c : Bool) → (b ≡ true → (a : ℕ) × ((a < n) × (p a ≡ true))) → p n ≡ c → (b || c) ≡ true → (a : ℕ) × ((a < suc n) × (p a ≡ true))
some_from n p true c earlier e h = wider n p (earlier refl)
some_from n p false true earlier e h = here n p e
some_from n p false false earlier e h = cc

pub some_one : (n : ℕ) (p : ℕ → Bool) → some_below n p ≡ true → (a : ℕ) × ((a < n) × (p a ≡ true))
some_one zero p h = cc
some_one (suc n) p h = some_from n p (some_below n p) (p n) (λ e. some_one n p e) refl h

none_some : (n : ℕ) (p : ℕ → Bool) → ((x : ℕ) → x < n → p x ≢ true) → some_below n p ≡ false
none_some n p none = true_or (some_below n p) (λ h. let one = some_one n p h in none one.0 one.1.0 one.1.1)

least_none : (n : ℕ) (p : ℕ → Bool) → ((x : ℕ) → x < n → p x ≢ true) → least_below n p ≡ 0
least_none zero p none = refl
least_none (suc n) p none =
    (λ i. if none_some n p (λ x h. none x (omega arith)) i then least_below n p else (if last i then n else 0))
  where
    last : p n ≡ false
    last = true_or (p n) (none n (omega arith))

least_first : (n : ℕ) (p : ℕ → Bool) (v : ℕ) → v < n → p v ≡ true → ((x : ℕ) → x < v → p x ≢ true) → least_below n p ≡ v
least_first zero p v h k none = absurd (omega arith)
least_first (suc n) p v h k none =
    elim (below_suc v n h) [
      | inl l ↦ ap (λ b. if b then least_below n p else (if p n then n else 0)) (one_some n p v l k) ∙ least_first n p v l k none
      | inr e ↦
          (λ i. if none_some n p (λ x l. none x (subst (λ z. x < z) (sym e) l)) i then least_below n p else (if subst (λ z. p z ≡ true) e k i then n else 0)) ∙ sym e
    ]

-- what is told of the first value found is what the constant says of the property
pub test_is : (k : Konst) (n : ℕ) (p : ℕ → Bool) (found : Option ℕ) → IsFirst p n (sought k) found → told k found ≡ test_of k n p
test_is (konst.All a) n p None h = ap truth (sym (each_every n p (λ x l. not_false (p x) (h x l))))
test_is (konst.All a) n p (Some v) h = ap truth (sym (true_or (every_below n p) (λ e. differ (p v) (every_each n p e v h.0) h.1.0)))
test_is (konst.Ex a) n p None h = ap truth (sym (none_some n p h))
test_is (konst.Ex a) n p (Some v) h = ap truth (sym (one_some n p v h.0 h.1.0))
test_is (konst.Eps a) n p None h = sym (least_none n p h)
test_is (konst.Eps a) n p (Some v) h = sym (least_first n p v h.0 h.1.0 h.1.1)
test_is (konst.Named i) n p found h = refl
test_is (konst.Aux i) n p found h = refl
test_is konst.True n p found h = refl
test_is konst.False n p found h = refl
test_is konst.Not n p found h = refl
test_is konst.And n p found h = refl
test_is konst.Or n p found h = refl
test_is konst.Imp n p found h = refl
test_is (konst.Eq a) n p found h = refl

pub one_of_test : (m : Model) (k : Konst) (x : ℕ) → k ≢ konst.Not → test_of k (size m (bound_ty k)) (holds_at m x) ≡ one_of m k x
one_of_test m konst.Not x h = absurd (h refl)
one_of_test m (konst.All a) x h = refl
one_of_test m (konst.Ex a) x h = refl
one_of_test m (konst.Eps a) x h = refl
one_of_test m (konst.Named i) x h = refl
one_of_test m (konst.Aux i) x h = refl
one_of_test m konst.True x h = refl
one_of_test m konst.False x h = refl
one_of_test m konst.And x h = refl
one_of_test m konst.Or x h = refl
one_of_test m konst.Imp x h = refl
one_of_test m (konst.Eq a) x h = refl

pub one_is : (m : Model) (k : Konst) (n x : ℕ) (found : Option ℕ) → size m bool_ty ≡ 2 → n ≡ size m (bound_ty k) → k ≢ konst.Not → IsFirst (λ y. digit 2 x y == 1) n (sought k) found → told k found ≡ one_of m k x
one_is m k n x found bools count other h =
    test_is k n (λ y. digit 2 x y == 1) found h ∙ (λ i. test_of k (count i) (λ y. digit (sym bools i) x y == 1)) ∙ one_of_test m k x other

pub one_is_found : (m : Model) (k : Konst) (n x : ℕ) (wanted : Bool) (found : Option ℕ) → size m bool_ty ≡ 2 → n ≡ size m (bound_ty k) → k ≢ konst.Not → wanted ≡ sought k →
    IsFirst (λ y. digit 2 x y == 1) n wanted found → told k found ≡ one_of m k x
one_is_found m k n x wanted found bools count other e h = one_is m k n x found bools count other (subst (λ w. IsFirst (λ y. digit 2 x y == 1) n w found) e h)
