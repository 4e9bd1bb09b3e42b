-- What the logical constants mean.
use Rattle.std.proofs.Common.{◌≡◌, ℕ, zero, suc, ◌<◌, Bool, true, false, ◌&&◌, ◌||◌, ◌==◌, if◌then◌else◌, IsTrue, [], ◌∷◌, refl, sym, ◌∙◌, ap, subst, arith, Some, ◌⊎◌, inl, inr}
use Rattle.std.proofs.lemmas.Bool.{eq-eqb, eqb-true}
use Rattle.hol_terms.specs.declared.ty.Ty.{Ty}
use Rattle.hol_terms.specs.declared.konst.Konst.{Konst}
use Rattle.hol_terms.specs.declared.konst.Konst.TheVariants as konst
use Rattle.hol_terms.specs.declared.sig.Sig.{Sig}
use Rattle.hol_terms.specs.declared.term.Term.{Term}
use Rattle.hol_terms.specs.Types.{bool_ty, function_ty, ty_fits}
use Rattle.hol_terms.specs.Typing.{type_in, type_of_term, konst_type}
use Rattle.hol_terms.specs.Substitution.{abstracted, instantiated}
use Rattle.hol_terms.proofs.Equations.{type-lam}
use Rattle.hol_terms.proofs.TypedParts.{checked_so, under_parts, function_parts}
use Rattle.hol_terms.proofs.Abstracts.{type_abstracted}
use Rattle.kernel_rules.specs.Connectives.{constant, apply, lambda, lambda_over, verum, falsum, neg, conj, disj, imp, equal, all, some, chosen, is_lambda, body_of, applied_to}
use Rattle.kernel_rules.proofs.TypedTerms.{apply_typed, constant_typed}
use Rattle.kernel_rules.proofs.Parts.{lambda_is}
use Rattle.model_truth.specs.declared.model.Model.{Model}
use Rattle.model_truth.specs.Numbers.{every_below, some_below, least_below}
use Rattle.model_truth.specs.Sizes.{size, IsModel}
use Rattle.model_truth.specs.Values.{Valuation, function, at, truth, implies, negation, holds_at, function2, konst_value, value_in, value_of}
use Rattle.model_truth.specs.Truth.{InRange, updated, Makes}
use Rattle.model_truth.proofs.Digits.{every_each, each_every, one_some, least_passes, least_within}
use Rattle.model_truth.proofs.Sizing.{size_positive, size_bool, truth_below, at_function, at_function2}
use Rattle.model_truth.proofs.Equations.{value-con, app_at, lam_at}
use Rattle.model_truth.proofs.Ranges.{none_within, more_within, value_below, own_value_below}
use Rattle.model_truth.proofs.Substituting.{value_put, value_abstracted}

truth_true : (b : Bool) → truth b ≡ 1 → b ≡ true
truth_true true h = refl
truth_true false h = cc

true_truth : (b : Bool) → b ≡ true → truth b ≡ 1
true_truth b h = ap truth h

not_one : (b : Bool) → (b ≡ true → ⊥) → negation b ≡ true
not_one true h = absurd (h refl)
not_one false h = refl

one_not : (b : Bool) → negation b ≡ true → b ≡ true → ⊥
one_not true h k = cc
one_not false h k = cc

implies_so : (a b : Bool) → (a ≡ true → b ≡ true) → implies a b ≡ true
implies_so true b h = h refl
implies_so false b h = refl

so_implies : (a b : Bool) → implies a b ≡ true → a ≡ true → b ≡ true
so_implies true b h k = h
so_implies false b h k = cc

both_so : (a b : Bool) → a ≡ true → b ≡ true → (a && b) ≡ true
both_so true b h k = k
both_so false b h k = h

so_both : (a b : Bool) → (a && b) ≡ true → (a ≡ true) × (b ≡ true)
so_both true b h = (refl, h)
so_both false b h = cc

left_so : (a b : Bool) → a ≡ true → (a || b) ≡ true
left_so true b h = refl
left_so false b h = cc

right_so : (a b : Bool) → b ≡ true → (a || b) ≡ true
right_so true b h = refl
right_so false b h = h

so_either : (a b : Bool) → (a || b) ≡ true → (a ≡ true) ⊎ (b ≡ true)
so_either true b h = inl refl
so_either false b h = inr h

one_eqb : (n : ℕ) → n ≡ 1 → (n == 1) ≡ true
one_eqb n h = eq-eqb n 1 h

eqb_one : (n : ℕ) → (n == 1) ≡ true → n ≡ 1
eqb_one n h = eqb-true n 1 h

-- a formula is made true or it isn't
decided : (b : Bool) → (b ≡ true) ⊎ (b ≡ true → ⊥)
decided true = inl refl
decided false = inr (λ h. cc)

below_two : (n : ℕ) → n < 2 → (n ≡ 1 → ⊥) → n ≡ 0
below_two zero h k = refl
below_two (suc zero) h k = absurd (k refl)
below_two (suc (suc n)) h k = absurd (omega arith)

zero_one : ◌≡◌ {A = ℕ} 0 1 → ⊥
zero_one h = omega arith

module _ (sig : Sig) (m : Model) (is : IsModel sig m) (v : Valuation) (in_range : InRange m v) where
  abbrev Val : Term → ℕ
  Val t = value_of sig m v t

  -- ---- applications
  pub val_apply : (f t : Term) (a b : Ty) → type_of_term sig f ≡ Some (function_ty a b) → type_of_term sig t ≡ Some a → Val (apply f t) ≡ at m b (Val f) (Val t)
  val_apply f t a b hf ht = app_at sig m v f t [] [] b (apply_typed sig f t a b hf ht)

  -- a constant that is put to one argument, to two
  val_one : (k : Konst) (a b : Ty) (g : ℕ → ℕ) (t : Term) → konst_type sig k ≡ Some (function_ty a b) → konst_value m k ≡ function m a b g → ((x : ℕ) → g x < size m b) → type_of_term sig t ≡ Some a →
      Val (apply (constant k) t) ≡ g (Val t)
  val_one k a b g t hk e each ht =
      val_apply (constant k) t a b (constant_typed sig k (function_ty a b) hk) ht ∙ ap (λ z. at m b z (Val t)) (value-con sig m v k [] [] ∙ e)
      ∙ at_function sig m is a b g (Val t) (λ x _. each x) (own_value_below sig m is v in_range t a ht)

  val_two : (k : Konst) (a b c : Ty) (g : ℕ → ℕ → ℕ) (s t : Term) → konst_type sig k ≡ Some (function_ty a (function_ty b c)) → konst_value m k ≡ function2 m a b c g → ((x y : ℕ) → g x y < size m c) →
      type_of_term sig s ≡ Some a → type_of_term sig t ≡ Some b → Val (apply (apply (constant k) s) t) ≡ g (Val s) (Val t)
  val_two k a b c g s t hk e each hs ht =
      let head = constant_typed sig k (function_ty a (function_ty b c)) hk in
      val_apply (apply (constant k) s) t b c (apply_typed sig (constant k) s a (function_ty b c) head hs) ht
      ∙ ap (λ z. at m c z (Val t)) (val_apply (constant k) s a (function_ty b c) head hs ∙ ap (λ z. at m (function_ty b c) z (Val s)) (value-con sig m v k [] [] ∙ e))
      ∙ at_function2 sig m is a b c g (Val s) (Val t) each (own_value_below sig m is v in_range s a hs) (own_value_below sig m is v in_range t b ht)

  abbrev IsProp : Term → Type 0
  IsProp t = type_of_term sig t ≡ Some bool_ty

  pub val_neg : (t : Term) → IsProp t → Val (neg t) ≡ truth (negation (Val t == 1))
  val_neg t h = val_one konst.Not bool_ty bool_ty (λ x. truth (negation (x == 1))) t refl refl (λ x. truth_below sig m is (negation (x == 1))) h

  pub val_conj : (s t : Term) → IsProp s → IsProp t → Val (conj s t) ≡ truth (Val s == 1 && Val t == 1)
  val_conj s t hs ht = val_two konst.And bool_ty bool_ty bool_ty (λ x y. truth (x == 1 && y == 1)) s t refl refl (λ x y. truth_below sig m is (x == 1 && y == 1)) hs ht

  pub val_disj : (s t : Term) → IsProp s → IsProp t → Val (disj s t) ≡ truth (Val s == 1 || Val t == 1)
  val_disj s t hs ht = val_two konst.Or bool_ty bool_ty bool_ty (λ x y. truth (x == 1 || y == 1)) s t refl refl (λ x y. truth_below sig m is (x == 1 || y == 1)) hs ht

  pub val_imp : (s t : Term) → IsProp s → IsProp t → Val (imp s t) ≡ truth (implies (Val s == 1) (Val t == 1))
  val_imp s t hs ht = val_two konst.Imp bool_ty bool_ty bool_ty (λ x y. truth (implies (x == 1) (y == 1))) s t refl refl (λ x y. truth_below sig m is (implies (x == 1) (y == 1))) hs ht

  pub val_equal : (a : Ty) (s t : Term) → IsTrue (ty_fits sig.types a) → type_of_term sig s ≡ Some a → type_of_term sig t ≡ Some a → Val (equal a s t) ≡ truth (Val s == Val t)
  val_equal a s t fits hs ht =
      val_two (konst.Eq a) a a bool_ty (λ x y. truth (x == y)) s t (checked_so sig.types a (function_ty a (function_ty a bool_ty)) fits) refl (λ x y. truth_below sig m is (x == y)) hs ht

  pub val_all : (a : Ty) (f : Term) → IsTrue (ty_fits sig.types a) → type_of_term sig f ≡ Some (function_ty a bool_ty) → Val (all a f) ≡ truth (every_below (size m a) (holds_at m (Val f)))
  val_all a f fits hf =
      val_one (konst.All a) (function_ty a bool_ty) bool_ty (λ x. truth (every_below (size m a) (holds_at m x))) f (checked_so sig.types a (function_ty (function_ty a bool_ty) bool_ty) fits) refl
      (λ x. truth_below sig m is (every_below (size m a) (holds_at m x))) hf

  pub val_some : (a : Ty) (f : Term) → IsTrue (ty_fits sig.types a) → type_of_term sig f ≡ Some (function_ty a bool_ty) → Val (some a f) ≡ truth (some_below (size m a) (holds_at m (Val f)))
  val_some a f fits hf =
      val_one (konst.Ex a) (function_ty a bool_ty) bool_ty (λ x. truth (some_below (size m a) (holds_at m x))) f (checked_so sig.types a (function_ty (function_ty a bool_ty) bool_ty) fits) refl
      (λ x. truth_below sig m is (some_below (size m a) (holds_at m x))) hf

  pub val_chosen : (a : Ty) (f : Term) → IsTrue (ty_fits sig.types a) → type_of_term sig f ≡ Some (function_ty a bool_ty) → Val (chosen a f) ≡ least_below (size m a) (holds_at m (Val f))
  val_chosen a f fits hf =
      val_one (konst.Eps a) (function_ty a bool_ty) a (λ x. least_below (size m a) (holds_at m x)) f (checked_so sig.types a (function_ty (function_ty a bool_ty) a) fits) refl
      (λ x. least_within (size m a) (holds_at m x) (size_positive sig m is a)) hf

  -- ---- lambdas
  -- `\x. t` at `x` is `t` where the variable has the value `x`
  pub at_lambda_over : (n : ℕ) (a c : Ty) (t : Term) (x : ℕ) → IsTrue (ty_fits sig.types a) → type_of_term sig t ≡ Some c → ((y : ℕ) → y < size m a → InRange m (updated v n a y)) → x < size m a →
      at m c (Val (lambda_over n a t)) x ≡ value_of sig m (updated v n a x) t
  at_lambda_over n a c t x fits ht ranges h =
      let body = type_abstracted sig n a fits t [] [] ∙ ht in
      ap (λ z. at m c z x) (val_lambda_over n a c t fits ht)
      ∙ at_function sig m is a c (λ y. value_of sig m (updated v n a y) t) x (λ y k. own_value_below sig m is (updated v n a y) (ranges y k) t c ht) h
    where
      val_lambda_over : (n : ℕ) (a c : Ty) (t : Term) → IsTrue (ty_fits sig.types a) → type_of_term sig t ≡ Some c → Val (lambda_over n a t) ≡ function m a c (λ y. value_of sig m (updated v n a y) t)
      val_lambda_over n a c t fits ht =
          lam_at sig m v a (abstracted n a t) [] [] c (type_abstracted sig n a fits t [] [] ∙ ht) ∙ (λ i. function m a c (λ y. value_abstracted sig m v n a y fits t [] [] [] [] 0 refl refl i))

  -- ---- `f@t`
  body_typed : (c a b : Ty) (t : Term) → type_of_term sig (lambda c t) ≡ Some (function_ty a b) → (c ≡ a) × (type_in sig t (c ∷ []) ≡ Some b)
  body_typed c a b t h =
      let parts = under_parts sig.types c (type_in sig t (c ∷ [])) (function_ty a b) (sym (type-lam sig c t []) ∙ h) in
      let same = function_parts a b c parts.0 parts.1.1.0 in
      (sym same.0, parts.1.0 ∙ ap (λ z. Some z) (sym same.1))

  contracts : (c a b : Ty) (s t : Term) → c ≡ a → type_in sig s (c ∷ []) ≡ Some b → type_of_term sig t ≡ Some a → ((y : ℕ) → y < size m a → value_in sig m v s (c ∷ []) (y ∷ []) < size m b) →
      Val (instantiated s t) ≡ at m b (Val (lambda c s)) (Val t)
  contracts c a b s t e hs ht each =
      let typed = ht ∙ ap (λ z. Some z) (sym e) in
      value_put sig m v t c typed s [] [] [] [] 0 refl refl
      ∙ sym (at_function sig m is c b (λ y. value_in sig m v s (c ∷ []) (y ∷ [])) (Val t) (λ y k. each y (subst (λ z. y < size m z) e k)) (own_value_below sig m is v in_range t c typed))
      ∙ sym (ap (λ z. at m b z (Val t)) (lam_at sig m v c s [] [] b hs))

  val_applied_at : (f t : Term) (a b : Ty) (lam : Bool) → is_lambda f ≡ lam → type_of_term sig f ≡ Some (function_ty a b) → type_of_term sig t ≡ Some a →
      Val (if lam then instantiated (body_of f) t else apply f t) ≡ at m b (Val f) (Val t)
  val_applied_at f t a b true e hf ht =
      let own = lambda_is f e in
      let body = body_typed own.0 a b (body_of f) (sym (ap (type_of_term sig) own.1) ∙ hf) in
      contracts own.0 a b (body_of f) t body.0 body.1 ht (below_body own.0 a b (body_of f) body.0 body.1) ∙ sym (ap (λ z. at m b (Val z) (Val t)) own.1)
    where
      below_body : (c a b : Ty) (s : Term) → c ≡ a → type_in sig s (c ∷ []) ≡ Some b → (y : ℕ) → y < size m a → value_in sig m v s (c ∷ []) (y ∷ []) < size m b
      below_body c a b s e hs y k = value_below sig m is v in_range s (c ∷ []) (y ∷ []) b (more_within m [] [] c y (subst (λ z. y < size m z) (sym e) k) (none_within m)) hs
  val_applied_at f t a b false e hf ht = val_apply f t a b hf ht

  pub val_applied : (f t : Term) (a b : Ty) → type_of_term sig f ≡ Some (function_ty a b) → type_of_term sig t ≡ Some a → Val (applied_to f t) ≡ at m b (Val f) (Val t)
  unfolding applied_to
  val_applied f t a b hf ht = val_applied_at f t a b (is_lambda f) refl hf ht

  -- ---- what is made true
  pub decide : (t : Term) → Makes sig m v t ⊎ (Makes sig m v t → ⊥)
  decide t = elim (decided (Val t == 1)) [ inl h ↦ inl (eqb_one (Val t) h) | inr h ↦ inr (λ k. h (one_eqb (Val t) k)) ]

  pub makes_verum : Makes sig m v verum
  makes_verum = value-con sig m v konst.True [] []

  pub makes_falsum : Makes sig m v falsum → ⊥
  makes_falsum h = zero_one (sym (value-con sig m v konst.False [] []) ∙ h)

  pub makes_neg : (t : Term) → IsProp t → (Makes sig m v t → ⊥) → Makes sig m v (neg t)
  makes_neg t ht h = val_neg t ht ∙ true_truth _ (not_one (Val t == 1) (λ k. h (eqb_one (Val t) k)))

  pub neg_makes : (t : Term) → IsProp t → Makes sig m v (neg t) → Makes sig m v t → ⊥
  neg_makes t ht h k = one_not (Val t == 1) (truth_true _ (sym (val_neg t ht) ∙ h)) (one_eqb (Val t) k)

  pub makes_conj : (s t : Term) → IsProp s → IsProp t → Makes sig m v s → Makes sig m v t → Makes sig m v (conj s t)
  makes_conj s t hs ht p q = val_conj s t hs ht ∙ true_truth _ (both_so (Val s == 1) (Val t == 1) (one_eqb (Val s) p) (one_eqb (Val t) q))

  pub conj_makes : (s t : Term) → IsProp s → IsProp t → Makes sig m v (conj s t) → Makes sig m v s × Makes sig m v t
  conj_makes s t hs ht h =
      let both = so_both (Val s == 1) (Val t == 1) (truth_true _ (sym (val_conj s t hs ht) ∙ h)) in (eqb_one (Val s) both.0, eqb_one (Val t) both.1)

  pub makes_left : (s t : Term) → IsProp s → IsProp t → Makes sig m v s → Makes sig m v (disj s t)
  makes_left s t hs ht p = val_disj s t hs ht ∙ true_truth _ (left_so (Val s == 1) (Val t == 1) (one_eqb (Val s) p))

  pub makes_right : (s t : Term) → IsProp s → IsProp t → Makes sig m v t → Makes sig m v (disj s t)
  makes_right s t hs ht p = val_disj s t hs ht ∙ true_truth _ (right_so (Val s == 1) (Val t == 1) (one_eqb (Val t) p))

  pub disj_makes : (s t : Term) → IsProp s → IsProp t → Makes sig m v (disj s t) → Makes sig m v s ⊎ Makes sig m v t
  disj_makes s t hs ht h =
      elim (so_either (Val s == 1) (Val t == 1) (truth_true _ (sym (val_disj s t hs ht) ∙ h))) [ inl k ↦ inl (eqb_one (Val s) k) | inr k ↦ inr (eqb_one (Val t) k) ]

  pub makes_imp : (s t : Term) → IsProp s → IsProp t → (Makes sig m v s → Makes sig m v t) → Makes sig m v (imp s t)
  makes_imp s t hs ht f = val_imp s t hs ht ∙ true_truth _ (implies_so (Val s == 1) (Val t == 1) (λ h. one_eqb (Val t) (f (eqb_one (Val s) h))))

  pub imp_makes : (s t : Term) → IsProp s → IsProp t → Makes sig m v (imp s t) → Makes sig m v s → Makes sig m v t
  imp_makes s t hs ht h p = eqb_one (Val t) (so_implies (Val s == 1) (Val t == 1) (truth_true _ (sym (val_imp s t hs ht) ∙ h)) (one_eqb (Val s) p))

  pub makes_equal : (a : Ty) (s t : Term) → IsTrue (ty_fits sig.types a) → type_of_term sig s ≡ Some a → type_of_term sig t ≡ Some a → Val s ≡ Val t → Makes sig m v (equal a s t)
  makes_equal a s t fits hs ht e = val_equal a s t fits hs ht ∙ true_truth _ (eq-eqb (Val s) (Val t) e)

  pub equal_makes : (a : Ty) (s t : Term) → IsTrue (ty_fits sig.types a) → type_of_term sig s ≡ Some a → type_of_term sig t ≡ Some a → Makes sig m v (equal a s t) → Val s ≡ Val t
  equal_makes a s t fits hs ht h = eqb-true (Val s) (Val t) (truth_true _ (sym (val_equal a s t fits hs ht) ∙ h))

  -- formulas that are made true alike have one value
  pub made_alike : (s t : Term) → IsProp s → IsProp t → (Makes sig m v s → Makes sig m v t) → (Makes sig m v t → Makes sig m v s) → Val s ≡ Val t
  made_alike s t hs ht f g =
      elim (decide s) [
        | inl p ↦ p ∙ sym (f p)
        | inr p ↦ below_two (Val s) (below s hs) p ∙ sym (below_two (Val t) (below t ht) (λ q. p (g q)))
      ]
    where
      below : (t : Term) → IsProp t → Val t < 2
      below t ht = subst (λ z. Val t < z) (size_bool sig m is) (own_value_below sig m is v in_range t bool_ty ht)

  pub makes_all : (a : Ty) (f : Term) → IsTrue (ty_fits sig.types a) → type_of_term sig f ≡ Some (function_ty a bool_ty) → ((x : ℕ) → x < size m a → at m bool_ty (Val f) x ≡ 1) → Makes sig m v (all a f)
  makes_all a f fits hf each = val_all a f fits hf ∙ true_truth _ (each_every (size m a) (holds_at m (Val f)) (λ x k. one_eqb (at m bool_ty (Val f) x) (each x k)))

  pub all_makes : (a : Ty) (f : Term) (x : ℕ) → IsTrue (ty_fits sig.types a) → type_of_term sig f ≡ Some (function_ty a bool_ty) → Makes sig m v (all a f) → x < size m a → at m bool_ty (Val f) x ≡ 1
  all_makes a f x fits hf h k = eqb_one (at m bool_ty (Val f) x) (every_each (size m a) (holds_at m (Val f)) (truth_true _ (sym (val_all a f fits hf) ∙ h)) x k)

  pub makes_some : (a : Ty) (f : Term) (x : ℕ) → IsTrue (ty_fits sig.types a) → type_of_term sig f ≡ Some (function_ty a bool_ty) → x < size m a → at m bool_ty (Val f) x ≡ 1 → Makes sig m v (some a f)
  makes_some a f x fits hf k h = val_some a f fits hf ∙ true_truth _ (one_some (size m a) (holds_at m (Val f)) x k (one_eqb (at m bool_ty (Val f) x) h))

  -- where some value has the property, the chosen one has it
  pub some_makes : (a : Ty) (f : Term) → IsTrue (ty_fits sig.types a) → type_of_term sig f ≡ Some (function_ty a bool_ty) → Makes sig m v (some a f) → at m bool_ty (Val f) (Val (chosen a f)) ≡ 1
  some_makes a f fits hf h =
      ap (at m bool_ty (Val f)) (val_chosen a f fits hf) ∙ eqb_one (at m bool_ty (Val f) (least_below (size m a) (holds_at m (Val f)))) (least_passes (size m a) (holds_at m (Val f)) (truth_true _ (sym (val_some a f fits hf) ∙ h)))
