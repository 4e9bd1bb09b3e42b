-- From the parts of a term to the term, in evaluation.
use Rattle.std.proofs.Common.{◌≡◌, ◌≢◌, inl, inr, ℕ, ◌+◌, ◌-◌, ◌*◌, ◌^◌, ◌<◌, ◌≤◌, Bool, true, false, ◌&&◌, ◌||◌, ◌==◌, refl, sym, ◌∙◌, ap, subst, arith, List, ◌∷◌, slice_get, add-one, Some, None, Ok, Err}
use Rattle.std.specs.Prelude.{Option, Result, IsErrAnd}
use Rattle.hol_terms.specs.declared.ty.Ty.{Ty}
use Rattle.hol_terms.specs.declared.konst.Konst.{Konst}
use Rattle.hol_terms.specs.declared.konst.Konst.TheVariants as konst
use Rattle.hol_terms.specs.declared.sig.Sig.{Sig}
use Rattle.hol_terms.specs.declared.term.Term.{Term}
use Rattle.hol_terms.specs.declared.term.Term.TheOpen.{Term-F}
use Rattle.hol_terms.specs.declared.term.Term.TheViews.{out-roll-Term}
use Rattle.hol_terms.specs.Types.{bool_ty, function_ty}
use Rattle.hol_terms.specs.Typing.{type_in, konst_type}
use Rattle.hol_terms.specs.Formulas.{aux_free}
use Rattle.hol_terms.specs.Substitution.{occurs}
use Rattle.hol_terms.proofs.TermCases as term
use Rattle.hol_terms.proofs.Both.{both_true, and_true}
use Rattle.hol_terms.proofs.Equations.{type-bound, type-con, type-app, type-lam, aux_free-app, aux_free-lam, occurs-app, occurs-lam}
use Rattle.hol_terms.proofs.TypedParts.{applied_parts, under_parts, function_parts, checked_some}
use Rattle.kernel_rules.specs.Connectives.{constant, apply, lambda}
use Rattle.model_truth.specs.declared.model.Model.{Model}
use Rattle.model_truth.specs.Numbers.{number, digit, every_below, some_below}
use Rattle.model_truth.specs.Sizes.{or_else, size, IsModel}
use Rattle.model_truth.specs.Values.{Valuation, function, function2, at, truth, negation, holds_at, konst_value, value_in}
use Rattle.model_truth.proofs.Sizing.{size_positive, size_bool, size-function, truth_below, at_function, at_function2}
use Rattle.model_truth.proofs.Digits.{least_within, below_suc}
use Rattle.model_truth.proofs.Equations.{value-bound, value-free, value-con, app_at, lam_at}
use Rattle.model_truth.proofs.Ranges.{more_within}
use Rattle.fin_model.specs.declared.fault.EvalFault.{EvalFault}
use Rattle.fin_model.specs.declared.fault.EvalFault.TheVariants.{TooBig, NoMemory}
use Rattle.fin_model.specs.declared.world.World.{World}
use Rattle.fin_model.specs.Limits.{Head, binder, one, two, other, first_head, second_head, inner_head, head_at, head_of, product, is_small, stays_small, parts_stay, measure, is_within}
use Rattle.fin_model.specs.inner.Seeking.{IsFirst}
use Rattle.fin_model.specs.inner.Constants.{two_of, one_of, side_ty, bound_ty, result_ty, test_of, sought, told}
use Rattle.fin_model.specs.inner.Evaluation.{sig_of, model_of, valuation_of, IsReady, IsWorth, Evaluates, IsSize, Sizes, IsSought, Seeks, IsSmallSize, IsEntered, IsTyped, IsResult, index, variable, body_at, Passed, BuiltTo}
use Rattle.fin_model.proofs.Bare.{two_below}
use Rattle.fin_model.proofs.Found.{test_is, one_of_test}
use Rattle.fin_model.proofs.Givens.{given_below}
use Rattle.fin_model.proofs.Measures.{within-bound, within-free, within-con, within-app, within-lam, property-lam, property-bound, property-free, property-con, property-app, argument-app, stays_so, stays_not, small_so, big_so, within_stays, so_stays, many_not}
use Rattle.fin_model.proofs.High.{high_all, next_is, next_below}
use Rattle.fin_model.proofs.Powers.{exponent_below}
use Rattle.std.proofs.Math.Bool.{beq}
use Rattle.std.proofs.lemmas.Bool.{eqb-true}
use Rattle.fin_model.proofs.Models.{fits_is_model}

or_left : (a b : Bool) → a ≡ true → (a || b) ≡ true
or_left true b h = refl
or_left false b h = cc

or_right : (a b : Bool) → b ≡ true → (a || b) ≡ true
or_right true b h = refl
or_right false b h = h

and_first : (a b : Bool) → a ≡ false → (a && b) ≡ false
and_first true b h = cc
and_first false b h = refl

and_second : (a b : Bool) → b ≡ false → (a && b) ≡ false
and_second true b h = h
and_second false b h = refl

none_some' : {X : Type 0} (x : X) (o : Option X) → ◌≡◌ {A = Option X} None (Some x) → ⊥
none_some' x o h = cc

pub beq_so : (a b : Bool) → beq a b ≡ true → a ≡ b
beq_so true true h = refl
beq_so true false h = cc
beq_so false true h = cc
beq_so false false h = refl

pub beq_not : (a b : Bool) → beq a b ≡ false → a ≢ b
beq_not true true h e = cc
beq_not true false h e = cc
beq_not false true h e = cc
beq_not false false h e = cc

some_same : {X : Type 0} (x y : X) → Some x ≡ Some y → x ≡ y
some_same x y h = cc

-- ---- logical constants
head-con : (k : Konst) → head_of (constant k) ≡ first_head k
head-con k = ap head_at (out-roll-Term (Term-F.Con k))

head-app : (k : Konst) (y : Term) → head_of (apply (constant k) y) ≡ second_head k
head-app k y = ap head_at (out-roll-Term (Term-F.App (constant k) y)) ∙ ap inner_head (out-roll-Term (Term-F.Con k))

clash_one : {X : Type 0} → ◌≡◌ {A = Head} one binder → X
clash_one h = cc

clash_other : {X : Type 0} → ◌≡◌ {A = Head} other binder → X
clash_other h = cc

clash_two : {X : Type 0} → ◌≡◌ {A = Head} other two → X
clash_two h = cc

binder_type : (sig : Sig) (k : Konst) (t : Ty) → first_head k ≡ binder → konst_type sig k ≡ Some t → function_ty (function_ty (bound_ty k) bool_ty) (result_ty k (bound_ty k)) ≡ t
binder_type sig (konst.All a) t h e = (checked_some sig.types a (function_ty (function_ty a bool_ty) bool_ty) t e).1
binder_type sig (konst.Ex a) t h e = (checked_some sig.types a (function_ty (function_ty a bool_ty) bool_ty) t e).1
binder_type sig (konst.Eps a) t h e = (checked_some sig.types a (function_ty (function_ty a bool_ty) a) t e).1
binder_type sig konst.Not t h e = clash_one h
binder_type sig (konst.Named i) t h e = clash_other h
binder_type sig (konst.Aux i) t h e = clash_other h
binder_type sig konst.True t h e = clash_other h
binder_type sig konst.False t h e = clash_other h
binder_type sig konst.And t h e = clash_other h
binder_type sig konst.Or t h e = clash_other h
binder_type sig konst.Imp t h e = clash_other h
binder_type sig (konst.Eq a) t h e = clash_other h

binder_value : (m : Model) (k : Konst) → first_head k ≡ binder → konst_value m k ≡ function m (function_ty (bound_ty k) bool_ty) (result_ty k (bound_ty k)) (one_of m k)
binder_value m (konst.All a) h = refl
binder_value m (konst.Ex a) h = refl
binder_value m (konst.Eps a) h = refl
binder_value m konst.Not h = clash_one h
binder_value m (konst.Named i) h = clash_other h
binder_value m (konst.Aux i) h = clash_other h
binder_value m konst.True h = clash_other h
binder_value m konst.False h = clash_other h
binder_value m konst.And h = clash_other h
binder_value m konst.Or h = clash_other h
binder_value m konst.Imp h = clash_other h
binder_value m (konst.Eq a) h = clash_other h

binder_below : (sig : Sig) (m : Model) (is : IsModel sig m) (k : Konst) (x : ℕ) → first_head k ≡ binder → one_of m k x < size m (result_ty k (bound_ty k))
binder_below sig m is (konst.All a) x h = truth_below sig m is (every_below (size m a) (holds_at m x))
binder_below sig m is (konst.Ex a) x h = truth_below sig m is (some_below (size m a) (holds_at m x))
binder_below sig m is (konst.Eps a) x h = least_within (size m a) (holds_at m x) (size_positive sig m is a)
binder_below sig m is konst.Not x h = clash_one h
binder_below sig m is (konst.Named i) x h = clash_other h
binder_below sig m is (konst.Aux i) x h = clash_other h
binder_below sig m is konst.True x h = clash_other h
binder_below sig m is konst.False x h = clash_other h
binder_below sig m is konst.And x h = clash_other h
binder_below sig m is konst.Or x h = clash_other h
binder_below sig m is konst.Imp x h = clash_other h
binder_below sig m is (konst.Eq a) x h = clash_other h

binder_not : (k : Konst) → first_head k ≡ binder → k ≢ konst.Not
binder_not k h e = clash_one (sym (ap first_head e) ∙ h)

two_type : (sig : Sig) (k : Konst) (t : Ty) → second_head k ≡ two → konst_type sig k ≡ Some t → function_ty (side_ty k) (function_ty (side_ty k) bool_ty) ≡ t
two_type sig konst.And t h e = some_same _ _ e
two_type sig konst.Or t h e = some_same _ _ e
two_type sig konst.Imp t h e = some_same _ _ e
two_type sig (konst.Eq a) t h e = (checked_some sig.types a (function_ty a (function_ty a bool_ty)) t e).1
two_type sig (konst.Named i) t h e = clash_two h
two_type sig (konst.Aux i) t h e = clash_two h
two_type sig konst.True t h e = clash_two h
two_type sig konst.False t h e = clash_two h
two_type sig konst.Not t h e = clash_two h
two_type sig (konst.All a) t h e = clash_two h
two_type sig (konst.Ex a) t h e = clash_two h
two_type sig (konst.Eps a) t h e = clash_two h

two_value : (m : Model) (k : Konst) → second_head k ≡ two → konst_value m k ≡ function2 m (side_ty k) (side_ty k) bool_ty (two_of k)
two_value m konst.And h = refl
two_value m konst.Or h = refl
two_value m konst.Imp h = refl
two_value m (konst.Eq a) h = refl
two_value m (konst.Named i) h = clash_two h
two_value m (konst.Aux i) h = clash_two h
two_value m konst.True h = clash_two h
two_value m konst.False h = clash_two h
two_value m konst.Not h = clash_two h
two_value m (konst.All a) h = clash_two h
two_value m (konst.Ex a) h = clash_two h
two_value m (konst.Eps a) h = clash_two h

module _ (w : World) (types : List Ty) (values : List ℕ) where
  abbrev S : Sig
  S = sig_of w

  abbrev M : Model
  M = model_of w

  abbrev V : Valuation
  V = valuation_of w

  abbrev Ready : Term → Type 0
  Ready t = IsReady w types values t

  pub is_model : (t : Term) → Ready t → IsModel S M
  is_model t r = fits_is_model S M r.fits

  -- ---- parts are ready
  pub ready_function : (f x : Term) → Ready (apply f x) → Ready f
  ready_function f x r =
      let parts = applied_parts (type_in S f types) (type_in S x types) r.typed.0 (sym (type-app S f x types) ∙ r.typed.1) in
      record {
        fits = r.fits;
        typed = (function_ty parts.0 r.typed.0, parts.1.0);
        clean = (both_true (aux_free f) (aux_free x) (sym (aux_free-app f x) ∙ r.clean)).0;
        given = λ n a h. r.given n a (occurs-app n a f x ∙ or_left (occurs n a f) (occurs n a x) h);
        within = r.within;
        few = r.few;
      }

  pub ready_argument : (f x : Term) → Ready (apply f x) → Ready x
  ready_argument f x r =
      let parts = applied_parts (type_in S f types) (type_in S x types) r.typed.0 (sym (type-app S f x types) ∙ r.typed.1) in
      record {
        fits = r.fits;
        typed = (parts.0, parts.1.1);
        clean = (both_true (aux_free f) (aux_free x) (sym (aux_free-app f x) ∙ r.clean)).1;
        given = λ n a h. r.given n a (occurs-app n a f x ∙ or_right (occurs n a f) (occurs n a x) h);
        within = r.within;
        few = r.few;
      }

  pub body_typed : (a : Ty) (b : Term) → Ready (lambda a b) → (c : Ty) × ((type_in S b (a ∷ types) ≡ Some c) × (type_in S (lambda a b) types ≡ Some (function_ty a c)))
  body_typed a b r =
      let parts = under_parts S.types a (type_in S b (a ∷ types)) r.typed.0 (sym (type-lam S a b types) ∙ r.typed.1) in
      (parts.0, (parts.1.0, r.typed.1 ∙ ap Some parts.1.1.0))

  pub ready_body : (a : Ty) (b : Term) (v : ℕ) → Ready (lambda a b) → v < size M a → product M types * size M a ≤ 4096 → IsReady w (a ∷ types) (v ∷ values) b
  ready_body a b v r h few =
      let own = body_typed a b r in
      record {
        fits = r.fits;
        typed = (own.0, own.1.0);
        clean = sym (aux_free-lam a b) ∙ r.clean;
        given = λ n c k. r.given n c (occurs-lam n c a b ∙ k);
        within = more_within M types values a v h r.within;
        few = few;
      }

  pub ready_below : (t : Term) (a : Ty) → Ready t → type_in S t types ≡ Some a → value_in S M V t types values < size M a
  ready_below t a r h = given_below S M (is_model t r) V t types values a r.given r.within h

  -- ---- sizes
  pub size_stays : (t : Term) (n : ℕ) → Ready t → IsSize w types t n → stays_small S M t types ≡ true
  size_stays t n r s = stays_so S M t types s.ty s.typed (subst (λ z. z ≤ 65536) s.size s.small) r.few

  -- a refusal is told of the whole
  pub too_big : (t u : Term) (e : EvalFault) → (is_within S M t types ≡ false → is_within S M u types ≡ false) → Evaluates w types values t (Err e) → Evaluates w types values u (Err e)
  too_big t u TooBig f h = f h
  too_big t u NoMemory f h = tt

  stays_from : (t : Term) (a : Ty) → type_in S t types ≡ Some a → 65536 < size M a → is_within S M t types ≡ true → is_within S M t types ≡ false
  stays_from t a e h k = let never = sym (within_stays S M t types k) ∙ stays_not S M t types a e h in cc

  pub size_too_big : (t : Term) (e : EvalFault) → Sizes w types t (Err e) → Evaluates w types values t (Err e)
  size_too_big t NoMemory h = tt
  size_too_big t TooBig h = chosen (is_within S M t types) refl
    where
      chosen : (b : Bool) → is_within S M t types ≡ b → is_within S M t types ≡ false
      chosen true k = stays_from t h.0 h.1.0 h.1.1 k
      chosen false k = k

  -- ---- leaves
  pub bound_worth : (i x n : ℕ) → Ready (index i) → slice_get values i ≡ Some x → IsSize w types (index i) n → IsWorth w types values (index i) x
  bound_worth i x n r h s =
      record { value = sym (value-bound S M V i types values ∙ ap (or_else 0) h); within = within-bound S M i types ∙ size_stays (index i) n r s }

  pub free_worth : (n : ℕ) (a : Ty) (x k : ℕ) → Ready (variable n a) → x ≡ V n a → IsSize w types (variable n a) k → IsWorth w types values (variable n a) x
  free_worth n a x k r h s = record { value = h ∙ sym (value-free S M V n a types values); within = within-free S M n a types ∙ size_stays (variable n a) k r s }

  pub con_worth : (k : Konst) (x n : ℕ) → Ready (constant k) → x ≡ konst_value M k → IsSize w types (constant k) n → IsWorth w types values (constant k) x
  con_worth k x n r h s = record { value = h ∙ sym (value-con S M V k types values); within = within-con S M k types ∙ size_stays (constant k) n r s }

  -- ---- applications
  parts_false : (f x : Term) (h : Head) → head_of f ≡ h → parts_stay h (measure S M f) (measure S M x) types ≡ false → is_within S M (apply f x) types ≡ false
  parts_false f x h e k =
      within-app S M f x types ∙ and_second (stays_small S M (apply f x) types) (parts_stay (head_of f) (measure S M f) (measure S M x) types)
      (ap (λ z. parts_stay z (measure S M f) (measure S M x) types) e ∙ k)

  parts_true : (f x : Term) (h : Head) (n : ℕ) → Ready (apply f x) → IsSize w types (apply f x) n → head_of f ≡ h → parts_stay h (measure S M f) (measure S M x) types ≡ true → is_within S M (apply f x) types ≡ true
  parts_true f x h n r s e k =
      within-app S M f x types ∙ and_true (stays_small S M (apply f x) types) (parts_stay (head_of f) (measure S M f) (measure S M x) types) (size_stays (apply f x) n r s)
      (ap (λ z. parts_stay z (measure S M f) (measure S M x) types) e ∙ k)

  pub other_function_false : (f x : Term) → head_of f ≡ other → is_within S M f types ≡ false → is_within S M (apply f x) types ≡ false
  other_function_false f x e k = parts_false f x other e (and_first (is_within S M f types) (is_within S M x types) k)

  pub other_argument_false : (f x : Term) → head_of f ≡ other → is_within S M x types ≡ false → is_within S M (apply f x) types ≡ false
  other_argument_false f x e k = parts_false f x other e (and_second (is_within S M f types) (is_within S M x types) k)

  pub other_worth : (f x : Term) (n a b : ℕ) → Ready (apply f x) → IsSize w types (apply f x) n → head_of f ≡ other → IsWorth w types values f a → IsWorth w types values x b →
      IsWorth w types values (apply f x) (digit n a b)
  other_worth f x n a b r s e wf wx =
      record {
        value =
            (λ i. digit (s.size i) (wf.value i) (wx.value i)) ∙ sym (app_at S M V f x types values s.ty s.typed);
        within = parts_true f x other n r s e (and_true (is_within S M f types) (is_within S M x types) wf.within wx.within);
      }

  -- ---- `not`
  not_head : (f : Term) → f ≡ constant konst.Not → head_of f ≡ one
  not_head f e = ap head_of e ∙ head-con konst.Not

  pub not_argument_false : (f x : Term) → f ≡ constant konst.Not → is_within S M x types ≡ false → is_within S M (apply f x) types ≡ false
  not_argument_false f x e k = parts_false f x one (not_head f e) k

  pub not_worth : (f x : Term) (n a : ℕ) → Ready (apply f x) → IsSize w types (apply f x) n → f ≡ constant konst.Not → IsWorth w types values x a → IsWorth w types values (apply f x) (truth (negation (a == 1)))
  not_worth f x n a r s e wx =
      let parts = applied_parts (type_in S f types) (type_in S x types) s.ty (sym (type-app S f x types) ∙ s.typed) in
      let head : type_in S (constant konst.Not) types ≡ Some (function_ty parts.0 s.ty) = sym (ap (λ z. type_in S z types) e) ∙ parts.1.0 in
      let own = function_parts bool_ty bool_ty parts.0 s.ty (some_same _ _ (sym (type-con S konst.Not types) ∙ head)) in
      let bools : type_in S x types ≡ Some bool_ty = parts.1.1 ∙ ap (λ z. Some z) (sym own.0) in
      record {
        value =
            ap (λ z. truth (negation (z == 1))) wx.value
            ∙ sym
            (ap (λ z. value_in S M V (apply z x) types values) e
            ∙ app_at S M V (constant konst.Not) x types values bool_ty (ap (λ z. type_in S (apply z x) types) (sym e) ∙ s.typed ∙ ap (λ z. Some z) (sym own.1))
            ∙ ap (λ z. at M bool_ty z (value_in S M V x types values)) (value-con S M V konst.Not types values)
            ∙ at_function S M (is_model (apply f x) r) bool_ty bool_ty (λ z. truth (negation (z == 1))) (value_in S M V x types values) (λ z _. truth_below S M (is_model (apply f x) r) (negation (z == 1)))
            (ready_below x bool_ty (ready_argument f x r) bools));
        within = parts_true f x one n r s (not_head f e) wx.within;
      }

  -- ---- quantifiers and `Eps`
  binder_head : (f : Term) (k : Konst) → f ≡ constant k → first_head k ≡ binder → head_of f ≡ binder
  binder_head f k e h = ap head_of e ∙ head-con k ∙ h

  pub binder_property : (f x : Term) (k : Konst) (a : Ty) → Ready (apply f x) → f ≡ constant k → first_head k ≡ binder → a ≡ bound_ty k → type_in S x types ≡ Some (function_ty a bool_ty)
  binder_property f x k a r e h own =
      let parts = applied_parts (type_in S f types) (type_in S x types) r.typed.0 (sym (type-app S f x types) ∙ r.typed.1) in
      let head = sym (type-con S k types) ∙ sym (ap (λ z. type_in S z types) e) ∙ parts.1.0 in
      let sides = function_parts (function_ty (bound_ty k) bool_ty) (result_ty k (bound_ty k)) parts.0 r.typed.0 (binder_type S k (function_ty parts.0 r.typed.0) h head) in
      parts.1.1 ∙ ap (λ z. Some z) (sym sides.0) ∙ ap (λ z. Some (function_ty z bool_ty)) (sym own)

  pub binder_false : (f x : Term) (k : Konst) → f ≡ constant k → first_head k ≡ binder → (measure S M x).property types ≡ false → is_within S M (apply f x) types ≡ false
  binder_false f x k e h p = parts_false f x binder (binder_head f k e h) p

  pub binder_worth : (f x : Term) (k : Konst) (a : Ty) (n : ℕ) (wanted : Bool) (found : Option ℕ) → Ready (apply f x) → IsSize w types (apply f x) n → f ≡ constant k → first_head k ≡ binder → a ≡ bound_ty k →
      wanted ≡ sought k → IsSought w types values a x wanted found → IsWorth w types values (apply f x) (told k found)
  binder_worth f x k a n wanted found r s e h own want is =
      let parts = applied_parts (type_in S f types) (type_in S x types) s.ty (sym (type-app S f x types) ∙ s.typed) in
      let head = sym (type-con S k types) ∙ sym (ap (λ z. type_in S z types) e) ∙ parts.1.0 in
      let sides = function_parts (function_ty (bound_ty k) bool_ty) (result_ty k (bound_ty k)) parts.0 s.ty (binder_type S k (function_ty parts.0 s.ty) h head) in
      let property : type_in S x types ≡ Some (function_ty (bound_ty k) bool_ty) = parts.1.1 ∙ ap (λ z. Some z) (sym sides.0) in
      let first = subst (λ z. IsFirst (holds_at M (value_in S M V x types values)) (size M a) z found) want is.first in
      record {
        value =
            test_is k (size M a) (holds_at M (value_in S M V x types values)) found first
            ∙ ap (λ z. test_of k (size M z) (holds_at M (value_in S M V x types values))) own
            ∙ one_of_test M k (value_in S M V x types values) (binder_not k h)
            ∙ sym
            (ap (λ z. value_in S M V (apply z x) types values) e
            ∙ app_at S M V (constant k) x types values (result_ty k (bound_ty k)) (ap (λ z. type_in S (apply z x) types) (sym e) ∙ s.typed ∙ ap (λ z. Some z) (sym sides.1))
            ∙ ap (λ z. at M (result_ty k (bound_ty k)) z (value_in S M V x types values)) (value-con S M V k types values ∙ binder_value M k h)
            ∙ at_function S M (is_model (apply f x) r) (function_ty (bound_ty k) bool_ty) (result_ty k (bound_ty k)) (one_of M k) (value_in S M V x types values)
            (λ z _. binder_below S M (is_model (apply f x) r) k z h) (ready_below x (function_ty (bound_ty k) bool_ty) (ready_argument f x r) property));
        within = parts_true f x binder n r s (binder_head f k e h) is.within;
      }

  -- ---- constants of two sides
  two_head : (f y : Term) (k : Konst) → f ≡ apply (constant k) y → second_head k ≡ two → head_of f ≡ two
  two_head f y k e h = ap head_of e ∙ head-app k y ∙ h

  pub ready_left : (f x y : Term) (k : Konst) → Ready (apply f x) → f ≡ apply (constant k) y → Ready y
  ready_left f x y k r e = ready_argument (constant k) y (subst Ready e (ready_function f x r))

  pub left_false : (f x y : Term) (k : Konst) → f ≡ apply (constant k) y → second_head k ≡ two → is_within S M y types ≡ false → is_within S M (apply f x) types ≡ false
  left_false f x y k e h p =
      parts_false f x two (two_head f y k e h)
      (and_first ((measure S M f).argument types) (is_within S M x types) (ap (λ z. (measure S M z).argument types) e ∙ argument-app S M (constant k) y types ∙ p))

  pub right_false : (f x y : Term) (k : Konst) → f ≡ apply (constant k) y → second_head k ≡ two → is_within S M x types ≡ false → is_within S M (apply f x) types ≡ false
  right_false f x y k e h p = parts_false f x two (two_head f y k e h) (and_second ((measure S M f).argument types) (is_within S M x types) p)

  pub two_worth : (f x y : Term) (k : Konst) (n a b : ℕ) → Ready (apply f x) → IsSize w types (apply f x) n → f ≡ apply (constant k) y → second_head k ≡ two → IsWorth w types values y a → IsWorth w types values x b →
      IsWorth w types values (apply f x) (two_of k a b)
  two_worth f x y k n a b r s e h wy wx =
      let outer = applied_parts (type_in S f types) (type_in S x types) s.ty (sym (type-app S f x types) ∙ s.typed) in
      let function : type_in S (apply (constant k) y) types ≡ Some (function_ty outer.0 s.ty) = sym (ap (λ z. type_in S z types) e) ∙ outer.1.0 in
      let inner = applied_parts (type_in S (constant k) types) (type_in S y types) (function_ty outer.0 s.ty) (sym (type-app S (constant k) y types) ∙ function) in
      let own = two_type S k (function_ty inner.0 (function_ty outer.0 s.ty)) h (sym (type-con S k types) ∙ inner.1.0) in
      let first = function_parts (side_ty k) (function_ty (side_ty k) bool_ty) inner.0 (function_ty outer.0 s.ty) own in
      let second = function_parts (side_ty k) bool_ty outer.0 s.ty first.1 in
      let left : type_in S y types ≡ Some (side_ty k) = inner.1.1 ∙ ap (λ z. Some z) (sym first.0) in
      let right : type_in S x types ≡ Some (side_ty k) = outer.1.1 ∙ ap (λ z. Some z) (sym second.0) in
      let model = is_model (apply f x) r in
      record {
        value =
            (λ i. two_of k (wy.value i) (wx.value i))
            ∙ sym
            (ap (λ z. value_in S M V (apply z x) types values) e
            ∙ app_at S M V (apply (constant k) y) x types values bool_ty (ap (λ z. type_in S (apply z x) types) (sym e) ∙ s.typed ∙ ap (λ z. Some z) (sym second.1))
            ∙ ap (λ z. at M bool_ty z (value_in S M V x types values))
            (app_at S M V (constant k) y types values (function_ty (side_ty k) bool_ty) (function ∙ ap (λ z. Some z) (sym first.1))
            ∙ ap (λ z. at M (function_ty (side_ty k) bool_ty) z (value_in S M V y types values)) (value-con S M V k types values ∙ two_value M k h))
            ∙ at_function2 S M model (side_ty k) (side_ty k) bool_ty (two_of k) (value_in S M V y types values) (value_in S M V x types values) (λ u v. subst (λ z. two_of k u v < z) (sym (size_bool S M model)) (two_below k u v))
            (ready_below y (side_ty k) (ready_left f x y k r e) left) (ready_below x (side_ty k) (ready_argument f x r) right));
        within =
            parts_true f x two n r s (two_head f y k e h)
            (and_true ((measure S M f).argument types) (is_within S M x types) (ap (λ z. (measure S M z).argument types) e ∙ argument-app S M (constant k) y types ∙ wy.within) wx.within);
      }

  -- ---- binders
  pub lam_bound_false : (a : Ty) (b : Term) → 65536 < size M a → (is_small M a && is_within S M b (a ∷ types)) ≡ false
  lam_bound_false a b h = and_first (is_small M a) (is_within S M b (a ∷ types)) (big_so S M a h)

  pub lam_body_false : (a : Ty) (b : Term) → is_within S M b (a ∷ types) ≡ false → (is_small M a && is_within S M b (a ∷ types)) ≡ false
  lam_body_false a b h = and_second (is_small M a) (is_within S M b (a ∷ types)) h

  pub lam_false : (a : Ty) (b : Term) → (is_small M a && is_within S M b (a ∷ types)) ≡ false → is_within S M (lambda a b) types ≡ false
  lam_false a b h = within-lam S M a b types ∙ and_second (stays_small S M (lambda a b) types) (is_small M a && is_within S M b (a ∷ types)) h

  pub lam_property : (a : Ty) (b : Term) (c : Bool) → (is_small M a && is_within S M b (a ∷ types)) ≡ c → (measure S M (lambda a b)).property types ≡ c
  lam_property a b c h = property-lam S M a b types ∙ h

  pub lam_within : (a : Ty) (b : Term) → size M a ≤ 65536 → is_within S M b (a ∷ types) ≡ true → (is_small M a && is_within S M b (a ∷ types)) ≡ true
  lam_within a b h k = and_true (is_small M a) (is_within S M b (a ∷ types)) (small_so S M a h) k

  pub many_body : (a : Ty) (b : Term) (p n : ℕ) → p ≡ product M types → n ≡ size M a → 4096 < p * n → is_within S M b (a ∷ types) ≡ false
  many_body a b p n e f h = many_not S M b (a ∷ types) (subst (λ z. 4096 < z) (λ i. e i * f i) h)

  -- the value of a lambda whose body has this type
  pub lam_number : (a : Ty) (b : Term) (base : ℕ) → Ready (lambda a b) → IsSize w (a ∷ types) b base → value_in S M V (lambda a b) types values ≡ number base (size M a) (body_at w types values a b)
  lam_number a b base r s = lam_at S M V a b types values s.ty s.typed ∙ ap (λ z. number z (size M a) (body_at w types values a b)) (sym s.size)

  pub body_below : (a : Ty) (b : Term) (c : Ty) (v : ℕ) → Ready (lambda a b) → type_in S b (a ∷ types) ≡ Some c → v < size M a → body_at w types values a b v < size M c
  body_below a b c v r h k =
      given_below S M (is_model (lambda a b) r) V b (a ∷ types) (v ∷ values) c (λ n d l. r.given n d (occurs-lam n d a b ∙ l)) (more_within M types values a v k r.within) h

  -- what a lambda gives at a value
  pub lam_holds : (a : Ty) (b : Term) (v : ℕ) → Ready (lambda a b) → type_in S b (a ∷ types) ≡ Some bool_ty → v < size M a → holds_at M (value_in S M V (lambda a b) types values) v ≡ (body_at w types values a b v == 1)
  lam_holds a b v r h k =
      ap (λ z. z == 1)
      (ap (λ z. at M bool_ty z v) (lam_at S M V a b types values bool_ty h)
      ∙ at_function S M (is_model (lambda a b) r) a bool_ty (body_at w types values a b) v (λ u l. body_below a b bool_ty u r h l) k)

  -- ---- refusals as `?` hands them on
  pub handed : (t : Term) (r : Result ℕ EvalFault) (e : EvalFault) → IsErrAnd r (λ x. x ≡ e) → Evaluates w types values t (Err e) → Evaluates w types values t r
  handed t (Ok n) e h k = absurd h
  handed t (Err x) e h k = subst (λ z. Evaluates w types values t (Err z)) (sym h) k

  pub handed_on : (a : Ty) (t : Term) (wanted : Bool) (r : Result (Option ℕ) EvalFault) (e : EvalFault) → IsErrAnd r (λ x. x ≡ e) → Seeks w types values a t wanted (Err e) → Seeks w types values a t wanted r
  handed_on a t wanted (Ok n) e h k = absurd h
  handed_on a t wanted (Err x) e h k = subst (λ z. Seeks w types values a t wanted (Err z)) (sym h) k

  pub refused_binder : (f x : Term) (k : Konst) (a : Ty) (wanted : Bool) (e : EvalFault) → f ≡ constant k → first_head k ≡ binder → Seeks w types values a x wanted (Err e) → Evaluates w types values (apply f x) (Err e)
  refused_binder f x k a wanted TooBig e h p = binder_false f x k e h p
  refused_binder f x k a wanted NoMemory e h p = tt

  pub refused_seek : (a : Ty) (t : Term) (wanted : Bool) (e : EvalFault) → ((measure S M t).property types ≡ is_within S M t types) → Evaluates w types values t (Err e) → Seeks w types values a t wanted (Err e)
  refused_seek a t wanted TooBig e h = e ∙ h
  refused_seek a t wanted NoMemory e h = tt

  -- a body's refusal, told of the lambda and of the property
  pub refused_body : (a : Ty) (b : Term) (v : ℕ) (e : EvalFault) → Evaluates w (a ∷ types) (v ∷ values) b (Err e) → Evaluates w types values (lambda a b) (Err e)
  refused_body a b v TooBig h = lam_false a b (lam_body_false a b h)
  refused_body a b v NoMemory h = tt

  pub refused_property : (a : Ty) (b : Term) (wanted : Bool) (v : ℕ) (e : EvalFault) → Evaluates w (a ∷ types) (v ∷ values) b (Err e) → Seeks w types values a (lambda a b) wanted (Err e)
  refused_property a b wanted v TooBig h = lam_property a b false (lam_body_false a b h)
  refused_property a b wanted v NoMemory h = tt

  pub refused_size : (a : Ty) (b : Term) (e : EvalFault) → IsSmallSize (size M a) (Err e) → Evaluates w types values (lambda a b) (Err e)
  refused_size a b TooBig h = lam_false a b (lam_bound_false a b h)
  refused_size a b NoMemory h = tt

  pub refused_property_size : (a : Ty) (b : Term) (wanted : Bool) (e : EvalFault) → IsSmallSize (size M a) (Err e) → Seeks w types values a (lambda a b) wanted (Err e)
  refused_property_size a b wanted TooBig h = lam_property a b false (lam_bound_false a b h)
  refused_property_size a b wanted NoMemory h = tt

  pub refused_product : (a : Ty) (b : Term) (p n : ℕ) (e : EvalFault) → p ≡ product M types → n ≡ size M a → IsEntered (p * n) (Err e) → Evaluates w types values (lambda a b) (Err e)
  refused_product a b p n TooBig f g h = lam_false a b (lam_body_false a b (many_body a b p n f g h))
  refused_product a b p n NoMemory f g h = tt

  pub refused_property_product : (a : Ty) (b : Term) (wanted : Bool) (p n : ℕ) (e : EvalFault) → p ≡ product M types → n ≡ size M a → IsEntered (p * n) (Err e) → Seeks w types values a (lambda a b) wanted (Err e)
  refused_property_product a b wanted p n TooBig f g h = lam_property a b false (lam_body_false a b (many_body a b p n f g h))
  refused_property_product a b wanted p n NoMemory f g h = tt

  -- ---- the search
  pub digit_sought : (a : Ty) (t : Term) (n x : ℕ) (wanted : Bool) (found : Option ℕ) → Ready t → n ≡ size M a → IsWorth w types values t x → (measure S M t).property types ≡ is_within S M t types →
      IsFirst (λ y. digit 2 x y == 1) n wanted found → IsSought w types values a t wanted found
  digit_sought a t n x wanted found r e wx p h =
      record {
        first = subst (λ z. IsFirst (holds_at M (value_in S M V t types values)) z wanted found) e
            (subst (λ s. IsFirst (λ y. digit s (value_in S M V t types values) y == 1) n wanted found) (sym (size_bool S M (is_model t r))) (subst (λ z. IsFirst (λ y. digit 2 z y == 1) n wanted found) wx.value h));
        within = p ∙ wx.within;
      }

  pub lam_sought : (a : Ty) (b : Term) (n v : ℕ) (wanted : Bool) → Ready (lambda a b) → type_in S b (a ∷ types) ≡ Some bool_ty → n ≡ size M a → n ≤ 65536 → v < n → Passed w types values a b wanted v →
      (body_at w types values a b v == 1) ≡ wanted → is_within S M b (a ∷ types) ≡ true → IsSought w types values a (lambda a b) wanted (Some v)
  lam_sought a b n v wanted r ht e small h passed k within =
      record {
        first = (
          subst (λ z. v < z) e h,
          (
            lam_holds a b v r ht (subst (λ z. v < z) e h) ∙ k,
            λ u l f. passed.none u l (sym (lam_holds a b u r ht (earlier u l)) ∙ f),
          ),
        );
        within = lam_property a b true (lam_within a b (subst (λ z. z ≤ 65536) e small) within);
      }
    where
      earlier : (u : ℕ) → u < v → u < size M a
      earlier u l = let own = subst (λ z. v < z) e h in omega arith

  pub lam_none : (a : Ty) (b : Term) (n : ℕ) (wanted : Bool) → Ready (lambda a b) → type_in S b (a ∷ types) ≡ Some bool_ty → n ≡ size M a → n ≤ 65536 → Passed w types values a b wanted n →
      IsSought w types values a (lambda a b) wanted None
  lam_none a b n wanted r ht e small passed =
      record {
        first = λ u l f. passed.none u (subst (λ z. u < z) (sym e) l) (sym (lam_holds a b u r ht l) ∙ f);
        within = lam_property a b true (lam_within a b (subst (λ z. z ≤ 65536) e small) (passed.within (subst (λ z. 0 < z) (sym e) (size_positive S M (is_model (lambda a b) r) a))));
      }

  -- ---- the number of a lambda
  pub lam_worth : (a : Ty) (b : Term) (base count n k : ℕ) → Ready (lambda a b) → IsSize w types (lambda a b) k → IsSize w (a ∷ types) b base → count ≡ size M a → count ≤ 65536 → BuiltTo w types values a b base count count n →
      IsWorth w types values (lambda a b) n
  lam_worth a b base count n k r s t e small built =
      record {
        value = built.digits ∙ high_all base count (body_at w types values a b) ∙ ap (λ z. number base z (body_at w types values a b)) e ∙ sym (lam_number a b base r t);
        within =
            within-lam S M a b types
            ∙ and_true (stays_small S M (lambda a b) types) (is_small M a && is_within S M b (a ∷ types)) (size_stays (lambda a b) k r s)
            (lam_within a b (subst (λ z. z ≤ 65536) e small) (built.within (subst (λ z. 0 < z) (sym e) (size_positive S M (is_model (lambda a b) r) a))));
      }

  -- the power that bounds the number
  pub lam_power : (a : Ty) (b : Term) (base count k : ℕ) → Ready (lambda a b) → IsSize w types (lambda a b) k → IsSize w (a ∷ types) b base → count ≡ size M a → base ^ count ≤ 65536
  lam_power a b base count k r s t e =
      let own = body_typed a b r in
      let to = some_same _ _ (sym t.typed ∙ own.1.0) in
      let whole = some_same _ _ (sym s.typed ∙ own.1.1) in
      let small = subst (λ z. z ≤ 65536) (s.size ∙ ap (size M) whole ∙ size-function M a own.0) s.small in
      subst (λ z. z ≤ 65536) (λ i. (sym (t.size ∙ ap (size M) to) i) ^ (sym e i)) small

  pub lam_digit_below : (a : Ty) (b : Term) (base count v : ℕ) → Ready (lambda a b) → IsSize w (a ∷ types) b base → count ≡ size M a → v < count → body_at w types values a b v < base
  lam_digit_below a b base count v r t e h = subst (λ z. body_at w types values a b v < z) (sym t.size) (body_below a b t.ty v r t.typed (subst (λ z. v < z) e h))

  pub built_more : (a : Ty) (b : Term) (base count i n x v : ℕ) → BuiltTo w types values a b base count i n → v ≡ count - 1 - i → IsWorth w (a ∷ types) (v ∷ values) b x → i < count → BuiltTo w types values a b base count (i + 1) (n * base + x)
  built_more a b base count i n x v built e wx h =
      record { digits = next_is n base count i x (body_at w types values a b) built.digits (wx.value ∙ ap (body_at w types values a b) e) h; within = λ _. wx.within }

  pub built_fits : (a : Ty) (b : Term) (base count i n : ℕ) (k : ℕ) → Ready (lambda a b) → IsSize w types (lambda a b) k → IsSize w (a ∷ types) b base → count ≡ size M a → BuiltTo w types values a b base count i n → i < count →
      n * base + body_at w types values a b (count - 1 - i) < 65536 + 1
  built_fits a b base count i n k r s t e built h =
      let low = next_below n base count i 65536 (body_at w types values a b) built.digits h (λ v l. lam_digit_below a b base count v r t e l) (lam_power a b base count k r s t e) in omega arith

  pub passed_more : (a : Ty) (b : Term) (wanted : Bool) (v x : ℕ) → Passed w types values a b wanted v → IsWorth w (a ∷ types) (v ∷ values) b x → (x == 1) ≢ wanted → Passed w types values a b wanted (v + 1)
  passed_more a b wanted v x passed wx h =
      record { none = λ u l. elim (below_suc u v (subst (λ z. u < z) (add-one v) l)) [ inl k ↦ passed.none u k | inr e ↦ here u e ]; within = λ _. wx.within }
    where
      here : (u : ℕ) → u ≡ v → (body_at w types values a b u == 1) ≢ wanted
      here u e k = h (ap (λ z. z == 1) (wx.value ∙ ap (body_at w types values a b) (sym e)) ∙ k)

  -- ---- types
  pub nothing_typed : (i : ℕ) → Ready (index i) → slice_get types i ≡ None → ⊥
  nothing_typed i r h = let some = sym (type-bound S i types) ∙ r.typed.1 in none_some' r.typed.0 None (sym h ∙ some)

  pub con_bare : (k : Konst) (n : ℕ) → Ready (constant k) → IsSize w types (constant k) n → (a : Ty) × ((konst_type S k ≡ Some a) × (size M a ≤ 65536))
  con_bare k n r s = (s.ty, (sym (type-con S k types) ∙ s.typed, subst (λ z. z ≤ 65536) s.size s.small))

  pub function_has_type : (f x : Term) → (a : Ty) × (type_in S (apply f x) types ≡ Some a) → (a : Ty) × (type_in S f types ≡ Some a)
  function_has_type f x h = let parts = applied_parts (type_in S f types) (type_in S x types) h.0 (sym (type-app S f x types) ∙ h.1) in (function_ty parts.0 h.0, parts.1.0)

  pub body_has_type : (a : Ty) (b : Term) → (c : Ty) × (type_in S (lambda a b) types ≡ Some c) → (c : Ty) × (type_in S b (a ∷ types) ≡ Some c)
  body_has_type a b h = let parts = under_parts S.types a (type_in S b (a ∷ types)) h.0 (sym (type-lam S a b types) ∙ h.1) in (parts.0, parts.1.0)

  -- the type of a function tells that of what it gives
  pub result_typed : (f x : Term) (g : Ty) (r : Result Ty EvalFault) → (a : Ty) × (type_in S (apply f x) types ≡ Some a) → type_in S f types ≡ Some g → ((a b : Ty) → g ≡ function_ty a b → IsResult b r) → IsTyped w types (apply f x) r
  result_typed f x g r h hf each =
      let parts = applied_parts (type_in S f types) (type_in S x types) h.0 (sym (type-app S f x types) ∙ h.1) in
      told_type r h.0 h.1 (each parts.0 h.0 (some_same _ _ (sym hf ∙ parts.1.0)))
    where
      told_type : (r : Result Ty EvalFault) (a : Ty) → type_in S (apply f x) types ≡ Some a → IsResult a r → IsTyped w types (apply f x) r
      told_type (Ok b) a e k = e ∙ ap (λ z. Some z) (sym k)
      told_type (Err TooBig) a e k = absurd k
      told_type (Err NoMemory) a e k = tt

  -- ---- for the code
  pub size_some : (t : Term) (n : ℕ) → Ready t → IsSize w types t n → 0 < n
  size_some t n r s = subst (λ z. 0 < z) (sym s.size) (size_positive S M (is_model t r) s.ty)

  pub negated_true : (a : ℕ) → a ≡ 1 → truth (negation (a == 1)) ≡ 0
  negated_true a h = ap (λ z. truth (negation (z == 1))) h

  pub negated_false : (a : ℕ) → (a ≡ 1 → ⊥) → truth (negation (a == 1)) ≡ 1
  negated_false a h = chosen (a == 1) refl
    where
      chosen : (b : Bool) → (a == 1) ≡ b → truth (negation (a == 1)) ≡ 1
      chosen true e = absurd (h (eqb-true a 1 e))
      chosen false e = ap (λ z. truth (negation z)) e

  -- the body of a property
  pub property_body : (a c : Ty) (b : Term) → type_in S (lambda c b) types ≡ Some (function_ty a bool_ty) → (c ≡ a) × (type_in S b (c ∷ types) ≡ Some bool_ty)
  property_body a c b h =
      let parts = under_parts S.types c (type_in S b (c ∷ types)) (function_ty a bool_ty) (sym (type-lam S c b types) ∙ h) in
      let same = function_parts a bool_ty c parts.0 parts.1.1.0 in
      (sym same.0, parts.1.0 ∙ ap (λ z. Some z) (sym same.1))

  pub seeks_at : (c a : Ty) (t : Term) (wanted : Bool) (r : Result (Option ℕ) EvalFault) → c ≡ a → Seeks w types values c t wanted r → Seeks w types values a t wanted r
  seeks_at c a t wanted r e h = subst (λ z. Seeks w types values z t wanted r) e h

  abbrev Alone : Term → Type 0
  Alone t = ((a : Ty) (b : Term) → t ≡ lambda a b → ⊥) → (measure S M t).property types ≡ is_within S M t types

  -- what is no lambda is measured as it stands
  pub property_alone : (t : Term) → Alone t
  property_alone t =
      term.by_cases Alone (λ i _. property-bound S M i types) (λ n a _. property-free S M n a types) (λ k _. property-con S M k types) (λ f x _ _ _. property-app S M f x types)
      (λ a b _ none. absurd (none a b refl)) t

  pub property_small : (a : Ty) (t : Term) (x : ℕ) → Ready t → type_in S t types ≡ Some (function_ty a bool_ty) → IsWorth w types values t x → size M a ≤ 65536
  property_small a t x r h wx =
      let small = (so_stays S M t types (function_ty a bool_ty) h (within_stays S M t types wx.within)).0 in
      exponent_below 2 (size M a) 65536 (omega arith) (subst (λ z. z ≤ 65536) (size-function M a bool_ty ∙ ap (λ z. z ^ size M a) (size_bool S M (is_model t r))) small)

  pub inside_is : (a : Ty) (p n k : ℕ) → p ≡ product M types → n ≡ size M a → k ≡ p * n → k ≡ product M (a ∷ types)
  inside_is a p n k e f h = h ∙ (λ i. e i * f i)

  pub ready_inside : (a : Ty) (b : Term) (v p n k : ℕ) → Ready (lambda a b) → p ≡ product M types → n ≡ size M a → (k ≡ p * n) × (p * n ≤ 4096) → v < n → IsReady w (a ∷ types) (v ∷ values) b
  ready_inside a b v p n k r e f h l = ready_body a b v r (subst (λ z. v < z) f l) (subst (λ z. z ≤ 4096) (λ i. e i * f i) h.1)

  pub lam_sought_at : (a : Ty) (b : Term) (n v x : ℕ) (wanted : Bool) → Ready (lambda a b) → type_in S b (a ∷ types) ≡ Some bool_ty → (n ≡ size M a) × (size M a ≤ 65536) → v < n → Passed w types values a b wanted v →
      IsWorth w (a ∷ types) (v ∷ values) b x → (x == 1) ≡ wanted → IsSought w types values a (lambda a b) wanted (Some v)
  lam_sought_at a b n v x wanted r ht e h passed wx k =
      lam_sought a b n v wanted r ht e.0 (subst (λ z. z ≤ 65536) (sym e.0) e.1) h passed (ap (λ z. z == 1) (sym wx.value) ∙ k) wx.within

  -- the type of a lambda from that of its body
  pub lambda_typed : (a c : Ty) (b : Term) → (d : Ty) × (type_in S (lambda a b) types ≡ Some d) → type_in S b (a ∷ types) ≡ Some c → type_in S (lambda a b) types ≡ Some (function_ty a c)
  lambda_typed a c b h e =
      let parts = under_parts S.types a (type_in S b (a ∷ types)) h.0 (sym (type-lam S a b types) ∙ h.1) in
      h.1 ∙ ap (λ z. Some z) parts.1.1.0 ∙ ap (λ z. Some (function_ty a z)) (some_same _ _ (sym parts.1.0 ∙ e))
