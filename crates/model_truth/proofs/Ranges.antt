-- The value of a typed term is one of its type's.
use Rattle.std.proofs.Common.{◌≡◌, ℕ, zero, suc, ◌<◌, true, false, ◌&&◌, ◌||◌, ◌==◌, List, [], ◌∷◌, slice_get, refl, sym, ◌∙◌, subst, Some, None}
use Rattle.std.specs.Prelude.{Option}
use Rattle.hol_terms.specs.declared.ty.Ty.{Ty}
use Rattle.hol_terms.specs.declared.konst.Konst.{Konst}
use Rattle.hol_terms.specs.declared.konst.Konst.TheVariants as konst
use Rattle.hol_terms.specs.declared.sig.Sig.{Sig}
use Rattle.hol_terms.specs.declared.term.Term.{Term, roll-Term}
use Rattle.hol_terms.specs.declared.term.Term.TheOpen.{Term-F}
use Rattle.hol_terms.specs.Types.{bool_ty, function_ty}
use Rattle.hol_terms.specs.Typing.{type_in, checked, fitting, konst_type}
use Rattle.hol_terms.proofs.TermCases as term
use Rattle.hol_terms.proofs.Equations.{type-bound, type-free, type-con, type-lam}
use Rattle.hol_terms.proofs.TypedParts.{checked_some, under_parts}
use Rattle.model_truth.specs.declared.model.Model.{Model}
use Rattle.model_truth.specs.Numbers.{every_below, some_below, least_below}
use Rattle.model_truth.specs.Sizes.{or_else, size, IsModel}
use Rattle.model_truth.specs.Values.{Valuation, truth, implies, negation, holds_at, konst_value, value_in}
use Rattle.model_truth.specs.Truth.{InRange, AllWithin}
use Rattle.model_truth.proofs.Digits.{least_within}
use Rattle.model_truth.proofs.Sizing.{size_positive, truth_below, at_below, function_below, function2_below}
use Rattle.model_truth.proofs.Equations.{value-bound, value-free, value-con, app_at, lam_at}

pub none_within : (m : Model) → AllWithin m [] []
none_within m i a e = cc

pub more_within : (m : Model) (types : List Ty) (values : List ℕ) (b : Ty) (x : ℕ) → x < size m b → AllWithin m types values → AllWithin m (b ∷ types) (x ∷ values)
more_within m types values b x h all zero a e = let same : b ≡ a = cc in subst (λ z. x < size m z) same h
more_within m types values b x h all (suc i) a e = all i a e

module _ (sig : Sig) (m : Model) (is : IsModel sig m) where
  of_type : (k a b : Ty) (n : ℕ) → ◌≡◌ {A = Option Ty} (Some a) (Some b) → n < size m a → n < size m b
  of_type k a b n e h = let same : a ≡ b = cc in subst (λ z. n < size m z) same h

  carried : (k t a : Ty) (n : ℕ) → checked sig.types k t ≡ Some a → n < size m t → n < size m a
  carried k t a n e h = subst (λ z. n < size m z) (checked_some sig.types k t a e).1 h

  named_below : (k : ℕ) (o : Option ℕ) (p : Option Ty) (a : Ty) → slice_get m.consts k ≡ o → slice_get sig.consts k ≡ p → fitting sig.types p ≡ Some a → or_else 0 o < size m a
  named_below k o None a e f h = cc
  named_below k None (Some b) a e f h = size_positive sig m is a
  named_below k (Some n) (Some b) a e f h = carried b b a n h (is.typed k n b e f)

  pub konst_below : (k : Konst) (a : Ty) → konst_type sig k ≡ Some a → konst_value m k < size m a
  konst_below (konst.Named k) a h = named_below k (slice_get m.consts k) (slice_get sig.consts k) a refl refl h
  konst_below (konst.Aux k) a h = size_positive sig m is a
  konst_below konst.True a h = of_type a bool_ty a 1 h (truth_below sig m is true)
  konst_below konst.False a h = of_type a bool_ty a 0 h (truth_below sig m is false)
  konst_below konst.Not a h =
      of_type a (function_ty bool_ty bool_ty) a (konst_value m konst.Not) h (function_below sig m is bool_ty bool_ty (λ x. truth (negation (x == 1))) (λ x _. truth_below sig m is (negation (x == 1))))
  konst_below konst.And a h =
      of_type a (function_ty bool_ty (function_ty bool_ty bool_ty)) a (konst_value m konst.And) h
      (function2_below sig m is bool_ty bool_ty bool_ty (λ x y. truth (x == 1 && y == 1)) (λ x y. truth_below sig m is (x == 1 && y == 1)))
  konst_below konst.Or a h =
      of_type a (function_ty bool_ty (function_ty bool_ty bool_ty)) a (konst_value m konst.Or) h
      (function2_below sig m is bool_ty bool_ty bool_ty (λ x y. truth (x == 1 || y == 1)) (λ x y. truth_below sig m is (x == 1 || y == 1)))
  konst_below konst.Imp a h =
      of_type a (function_ty bool_ty (function_ty bool_ty bool_ty)) a (konst_value m konst.Imp) h
      (function2_below sig m is bool_ty bool_ty bool_ty (λ x y. truth (implies (x == 1) (y == 1))) (λ x y. truth_below sig m is (implies (x == 1) (y == 1))))
  konst_below (konst.Eq b) a h =
      carried b (function_ty b (function_ty b bool_ty)) a (konst_value m (konst.Eq b)) h (function2_below sig m is b b bool_ty (λ x y. truth (x == y)) (λ x y. truth_below sig m is (x == y)))
  konst_below (konst.All b) a h =
      carried b (function_ty (function_ty b bool_ty) bool_ty) a (konst_value m (konst.All b)) h
      (function_below sig m is (function_ty b bool_ty) bool_ty (λ f. truth (every_below (size m b) (holds_at m f))) (λ f _. truth_below sig m is (every_below (size m b) (holds_at m f))))
  konst_below (konst.Ex b) a h =
      carried b (function_ty (function_ty b bool_ty) bool_ty) a (konst_value m (konst.Ex b)) h
      (function_below sig m is (function_ty b bool_ty) bool_ty (λ f. truth (some_below (size m b) (holds_at m f))) (λ f _. truth_below sig m is (some_below (size m b) (holds_at m f))))
  konst_below (konst.Eps b) a h =
      carried b (function_ty (function_ty b bool_ty) b) a (konst_value m (konst.Eps b)) h
      (function_below sig m is (function_ty b bool_ty) b (λ f. least_below (size m b) (holds_at m f)) (λ f _. least_within (size m b) (holds_at m f) (size_positive sig m is b)))

  module _ (v : Valuation) (in_range : InRange m v) where
    abbrev Below : Term → Type 0
    Below t = (types : List Ty) (values : List ℕ) (a : Ty) → AllWithin m types values → type_in sig t types ≡ Some a → value_in sig m v t types values < size m a

    bound : (i : ℕ) → Below (roll-Term (Term-F.Bound i))
    bound i types values a all h = subst (λ z. z < size m a) (sym (value-bound sig m v i types values)) (all i a (sym (type-bound sig i types) ∙ h))

    free : (n : ℕ) (b : Ty) → Below (roll-Term (Term-F.Free n b))
    free n b types values a all h = subst (λ z. z < size m a) (sym (value-free sig m v n b types values)) (carried b b a (v n b) (sym (type-free sig n b types) ∙ h) (in_range n b))

    con : (k : Konst) → Below (roll-Term (Term-F.Con k))
    con k types values a all h = subst (λ z. z < size m a) (sym (value-con sig m v k types values)) (konst_below k a (sym (type-con sig k types) ∙ h))

    app : (f x : Term) → Below f → Below x → Below (roll-Term (Term-F.App f x))
    app f x hf hx types values a all h =
        subst (λ z. z < size m a) (sym (app_at sig m v f x types values a h)) (at_below sig m is a (value_in sig m v f types values) (value_in sig m v x types values))

    lam : (b : Ty) (t : Term) → Below t → Below (roll-Term (Term-F.Lam b t))
    lam b t ht types values a all h =
        let parts = under_parts sig.types b (type_in sig t (b ∷ types)) a (sym (type-lam sig b t types) ∙ h) in
        subst (λ z. value_in sig m v (roll-Term (Term-F.Lam b t)) types values < size m z) (sym parts.1.1.0)
        (subst (λ z. z < size m (function_ty b parts.0)) (sym (lam_at sig m v b t types values parts.0 parts.1.0))
        (function_below sig m is b parts.0 (λ x. value_in sig m v t (b ∷ types) (x ∷ values)) (λ x k. ht (b ∷ types) (x ∷ values) parts.0 (more_within m types values b x k all) parts.1.0)))

    pub value_below : (t : Term) → Below t
    value_below t = term.by_cases Below bound free con app lam t

    pub own_value_below : (t : Term) (a : Ty) → type_in sig t [] ≡ Some a → value_in sig m v t [] [] < size m a
    own_value_below t a h = value_below t [] [] a (none_within m) h
