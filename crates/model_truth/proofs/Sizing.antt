-- Sizes of types in a model, and values that are below them.
use Rattle.std.proofs.Common.{◌≡◌, ℕ, zero, suc, ◌*◌, ◌^◌, ◌<◌, Bool, true, false, refl, sym, ◌∙◌, ap, subst, arith, slice_get, Some, None}
use Rattle.std.specs.Prelude.{Option}
use Rattle.std.proofs.Math.Nat.{pow-zero, pow-succ'}
use Rattle.hol_terms.specs.declared.ty.Ty.{Ty, roll-Ty}
use Rattle.hol_terms.specs.declared.ty.Ty.TheOpen.{Ty-F}
use Rattle.hol_terms.specs.declared.ty.Ty.TheFolds.{fold-roll-Ty}
use Rattle.hol_terms.specs.declared.sig.Sig.{Sig}
use Rattle.hol_terms.specs.Types.{bool_ty, function_ty}
use Rattle.hol_terms.proofs.TyCases as ty
use Rattle.model_truth.specs.declared.model.Model.{Model}
use Rattle.model_truth.specs.Sizes.{or_else, base_size, size_step, size, IsModel}
use Rattle.model_truth.specs.Values.{function, at, truth, function2}
use Rattle.model_truth.proofs.Digits.{number_below, digit_below, digit_number}

pub size-base : (m : Model) (a : ℕ) → size m (roll-Ty (Ty-F.Base a)) ≡ base_size m a
size-base m a = fold-roll-Ty ℕ (size_step m) (Ty-F.Base a)

pub size-function : (m : Model) (a b : Ty) → size m (function_ty a b) ≡ size m b ^ size m a
size-function m a b = fold-roll-Ty ℕ (size_step m) (Ty-F.Arrow a b)

pow_positive : (b n : ℕ) → 0 < b → 0 < b ^ n
pow_positive b zero h = subst (λ z. 0 < z) (sym (pow-zero b)) (omega arith)
pow_positive b (suc n) h = subst (λ z. 0 < z) (sym (pow-succ' b n)) (product b (b ^ n) h (pow_positive b n h))
  where
    product : (x y : ℕ) → 0 < x → 0 < y → 0 < x * y
    product zero y p q = absurd (omega arith)
    product (suc x) zero p q = absurd (omega arith)
    product (suc x) (suc y) p q = grind arith

module _ (sig : Sig) (m : Model) (is : IsModel sig m) where
  base_positive : (a : ℕ) (o : Option ℕ) → slice_get m.sizes a ≡ o → 0 < or_else 1 o
  base_positive a None e = omega arith
  base_positive a (Some n) e = is.inhabited a n e

  -- each type has a value
  pub size_positive : (a : Ty) → 0 < size m a
  size_positive a =
      ty.by_cases (λ b. 0 < size m b) (λ n. subst (λ z. 0 < z) (sym (size-base m n)) (base_positive n (slice_get m.sizes n) refl))
      (λ b c hb hc. subst (λ z. 0 < z) (sym (size-function m b c)) (pow_positive (size m c) (size m b) hc)) a

  pub size_bool : size m bool_ty ≡ 2
  size_bool = size-base m 0 ∙ ap (or_else 1) is.bools

  pub truth_below : (b : Bool) → truth b < size m bool_ty
  truth_below true = subst (λ z. 1 < z) (sym size_bool) (omega arith)
  truth_below false = subst (λ z. 0 < z) (sym size_bool) (omega arith)

  pub at_below : (b : Ty) (f x : ℕ) → at m b f x < size m b
  at_below b f x = digit_below (size m b) f x (size_positive b)

  -- ---- functions of one argument
  pub function_below : (a b : Ty) (f : ℕ → ℕ) → ((x : ℕ) → x < size m a → f x < size m b) → function m a b f < size m (function_ty a b)
  function_below a b f each = subst (λ z. function m a b f < z) (sym (size-function m a b)) (number_below (size m b) (size m a) f each)

  pub at_function : (a b : Ty) (f : ℕ → ℕ) (x : ℕ) → ((y : ℕ) → y < size m a → f y < size m b) → x < size m a → at m b (function m a b f) x ≡ f x
  at_function a b f x each h = digit_number (size m b) (size m a) f x each h

  -- ---- of two
  pub function2_below : (a b c : Ty) (f : ℕ → ℕ → ℕ) → ((x y : ℕ) → f x y < size m c) → function2 m a b c f < size m (function_ty a (function_ty b c))
  function2_below a b c f each = function_below a (function_ty b c) (λ x. function m b c (f x)) (λ x _. function_below b c (f x) (λ y _. each x y))

  pub at_function2 : (a b c : Ty) (f : ℕ → ℕ → ℕ) (x y : ℕ) → ((u v : ℕ) → f u v < size m c) → x < size m a → y < size m b → at m c (at m (function_ty b c) (function2 m a b c f) x) y ≡ f x y
  at_function2 a b c f x y each hx hy =
      ap (λ z. at m c z y) (at_function a (function_ty b c) (λ u. function m b c (f u)) x (λ u _. function_below b c (f u) (λ v _. each u v)) hx) ∙ at_function b c (f x) y (λ v _. each x v) hy
