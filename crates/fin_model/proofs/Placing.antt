-- Values and types that are listed side by side; digits, place by place.
use Rattle.std.proofs.Common.{◌≡◌, ◌≢◌, ℕ, zero, suc, ◌+◌, ◌-◌, ◌/◌, ◌<◌, Bool, true, false, ◌&&◌, refl, sym, ◌∙◌, ap, arith, List, [], ◌∷◌, length, get_or, drop, add-one}
use Rattle.std.proofs.Math.Seq.{drop-cons}
use Rattle.hol_terms.specs.declared.ty.Ty.{Ty}
use Rattle.model_truth.specs.declared.model.Model.{Model}
use Rattle.model_truth.specs.Numbers.{digit}
use Rattle.fin_model.specs.Fitting.{is_value, are_values}

pub digit_none : (b a : ℕ) → 0 < b → digit b 0 a ≡ 0
digit_none b zero h = omega arith
digit_none b (suc a) h = let none : 0 / b ≡ 0 = omega arith in ap (λ z. digit b z a) none ∙ digit_none b a h

pub digit_next : (b v k : ℕ) → 0 < k → digit b v k ≡ digit b (v / b) (k - 1)
digit_next b v zero h = absurd (omega arith)
digit_next b v (suc k) h = let back : suc k - 1 ≡ k = omega arith in ap (digit b (v / b)) (sym back)

pub other_length : (m : Model) (tys : List Ty) (values : List ℕ) → length tys ≢ length values → are_values m tys values ≡ false
other_length m [] [] h = absurd (h refl)
other_length m [] (n ∷ ns) h = refl
other_length m (a ∷ more) [] h = refl
other_length m (a ∷ more) (n ∷ ns) h = behind (is_value m a n) (other_length m more ns (λ e. h (ap suc e)))
  where
    behind : (b : Bool) → are_values m more ns ≡ false → (b && are_values m more ns) ≡ false
    behind true k = k
    behind false k = refl

pub values_at : (m : Model) (tys : List Ty) (values : List ℕ) (i : ℕ) (a : Ty) → i < length tys → i < length values →
    are_values m (drop i tys) (drop i values) ≡ (is_value m (get_or tys i a) (get_or values i 0) && are_values m (drop (i + 1) tys) (drop (i + 1) values))
values_at m tys values i a h k = (λ j. are_values m (drop-cons tys i a h j) (drop-cons values i 0 k j)) ∙ ap (λ z. is_value m (get_or tys i a) (get_or values i 0) && are_values m (drop z tys) (drop z values)) (sym (add-one i))

pub first_fails : (m : Model) (tys : List Ty) (values : List ℕ) (i : ℕ) (a : Ty) → i < length tys → i < length values → a ≡ get_or tys i a → is_value m a (get_or values i 0) ≡ false →
    are_values m (drop i tys) (drop i values) ≡ false
first_fails m tys values i a h k e f =
    values_at m tys values i a h k ∙ ap (λ z. is_value m z (get_or values i 0) && are_values m (drop (i + 1) tys) (drop (i + 1) values)) (sym e) ∙ ap (λ b. b && are_values m (drop (i + 1) tys) (drop (i + 1) values)) f

pub first_passes : (m : Model) (tys : List Ty) (values : List ℕ) (i : ℕ) (a : Ty) → i < length tys → i < length values → a ≡ get_or tys i a → is_value m a (get_or values i 0) ≡ true →
    are_values m (drop i tys) (drop i values) ≡ are_values m (drop (i + 1) tys) (drop (i + 1) values)
first_passes m tys values i a h k e f =
    values_at m tys values i a h k ∙ ap (λ z. is_value m z (get_or values i 0) && are_values m (drop (i + 1) tys) (drop (i + 1) values)) (sym e) ∙ ap (λ b. b && are_values m (drop (i + 1) tys) (drop (i + 1) values)) f
