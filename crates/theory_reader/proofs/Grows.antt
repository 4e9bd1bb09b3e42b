-- A sentence stays a sentence where more types and constants are declared.
use Rattle.std.proofs.Common.{◌≡◌, ℕ, ◌≤◌, ◌<◌, ◌∙◌, Bool, true, false, if◌then◌else◌, IsTrue, List, [], ◌∷◌, slice_get, Some, None, sym, refl, arith}
use Rattle.std.specs.Prelude.{Option}
use Rattle.std.proofs.lemmas.Bool.{ltb-true, lt-ltb}
use Rattle.hol_terms.specs.declared.ty.Ty.{Ty}
use Rattle.hol_terms.specs.declared.konst.Konst.{Konst}
use Rattle.hol_terms.specs.declared.konst.Konst.TheVariants as konst
use Rattle.hol_terms.specs.declared.sig.Sig.{Sig}
use Rattle.hol_terms.specs.declared.term.Term.{Term}
use Rattle.hol_terms.specs.Types.{ty_fits, bool_ty, function_ty}
use Rattle.hol_terms.specs.Typing.{type_in, konst_type, applied, under, checked, fitting}
use Rattle.hol_terms.specs.Formulas.{IsSentence}
use Rattle.hol_terms.proofs.Both.{both_true, and_true}
use Rattle.hol_terms.proofs.TyCases as ty
use Rattle.hol_terms.proofs.TermCases as term
use Rattle.hol_terms.proofs.Equations.{ty_fits-base, ty_fits-arrow, type-bound, type-free, type-con, type-app, type-lam}
use Rattle.hol_terms.proofs.Formulas.{formula_from, formula_typed, formula_aux_free, sentence_from, sentence_formula, sentence_var_free}

-- the base types of a type stay below a greater number
abbrev Fitting : ℕ → ℕ → Ty → Type 0
Fitting m n a = IsTrue (ty_fits m a) → IsTrue (ty_fits n a)

pub ty_fits_more : (m n : ℕ) → m ≤ n → (a : Ty) → IsTrue (ty_fits m a) → IsTrue (ty_fits n a)
ty_fits_more m n le = ty.by_cases (Fitting m n)
    (λ a h. let below : a < m = ltb-true a m (sym (ty_fits-base m a) ∙ h) in let above : a < n = omega arith in ty_fits-base n a ∙ lt-ltb a n above)
    (λ a b ha hb h. let both = both_true (ty_fits m a) (ty_fits m b) (sym (ty_fits-arrow m a b) ∙ h) in
    ty_fits-arrow n a b ∙ and_true (ty_fits n a) (ty_fits n b) (ha both.0) (hb both.1))

-- the second signature has all that the first has
pub record Extends (small big : Sig) : Type 0 where
  pub types : small.types ≤ big.types
  pub consts : (k : ℕ) (a : Ty) → slice_get small.consts k ≡ Some a → slice_get big.consts k ≡ Some a
  pub aux : (k : ℕ) (a : Ty) → slice_get small.aux k ≡ Some a → slice_get big.aux k ≡ Some a

-- what the first option holds, the second does
abbrev Stays : Option Ty → Option Ty → Type 0
Stays o p = (b : Ty) → o ≡ Some b → p ≡ Some b

chosen : (x y : Bool) (t b : Ty) → (x ≡ true → y ≡ true) → (if x then Some t else None) ≡ Some b → (if y then Some t else None) ≡ Some b
chosen true y t b h e = rw (h refl) e
chosen false y t b h e = cc

applied_stays : (o p q r : Option Ty) → Stays o q → Stays p r → Stays (applied o p) (applied q r)
applied_stays None p q r ho hp b e = cc
applied_stays (Some f) None q r ho hp b e = cc
applied_stays (Some f) (Some x) q r ho hp b e = rw (ho f refl, hp x refl) e

module _ (small big : Sig) (more : Extends small big) where
  checked_stays : (a t : Ty) → Stays (checked small.types a t) (checked big.types a t)
  checked_stays a t b e = chosen (ty_fits small.types a) (ty_fits big.types a) t b (ty_fits_more small.types big.types more.types a) e

  fitting_stays : (o p : Option Ty) → Stays o p → Stays (fitting small.types o) (fitting big.types p)
  fitting_stays None p h b e = cc
  fitting_stays (Some t) p h b e = rw (h t refl) (checked_stays t t b e)

  under_stays : (a : Ty) (o p : Option Ty) → Stays o p → Stays (under small.types a o) (under big.types a p)
  under_stays a None p h b e = cc
  under_stays a (Some t) p h b e = rw (h t refl) (checked_stays a (function_ty a t) b e)

  konst_stays : (k : Konst) → Stays (konst_type small k) (konst_type big k)
  konst_stays (konst.Named k) = fitting_stays (slice_get small.consts k) (slice_get big.consts k) (more.consts k)
  konst_stays (konst.Aux k) = fitting_stays (slice_get small.aux k) (slice_get big.aux k) (more.aux k)
  konst_stays konst.True = λ b e. e
  konst_stays konst.False = λ b e. e
  konst_stays konst.Not = λ b e. e
  konst_stays konst.And = λ b e. e
  konst_stays konst.Or = λ b e. e
  konst_stays konst.Imp = λ b e. e
  konst_stays (konst.Eq a) = checked_stays a (function_ty a (function_ty a bool_ty))
  konst_stays (konst.All a) = checked_stays a (function_ty (function_ty a bool_ty) bool_ty)
  konst_stays (konst.Ex a) = checked_stays a (function_ty (function_ty a bool_ty) bool_ty)
  konst_stays (konst.Eps a) = checked_stays a (function_ty (function_ty a bool_ty) a)

  abbrev TypeStays : Term → Type 0
  TypeStays t = (binders : List Ty) → Stays (type_in small t binders) (type_in big t binders)

  along : (o p q r : Option Ty) → o ≡ p → q ≡ r → Stays p r → Stays o q
  along o p q r e f h b s = f ∙ h b (sym e ∙ s)

  pub type_stays : (t : Term) → TypeStays t
  type_stays t = term.by_cases TypeStays
      (λ i d. along _ _ _ _ (type-bound small i d) (type-bound big i d) (λ b e. e))
      (λ n a d. along _ _ _ _ (type-free small n a d) (type-free big n a d) (checked_stays a a))
      (λ k d. along _ _ _ _ (type-con small k d) (type-con big k d) (konst_stays k))
      (λ f x hf hx d. along _ _ _ _ (type-app small f x d) (type-app big f x d) (applied_stays _ _ _ _ (hf d) (hx d)))
      (λ a s hs d. along _ _ _ _ (type-lam small a s d) (type-lam big a s d) (under_stays a _ _ (hs (a ∷ d))))
      t

  pub sentence_stays : (t : Term) → IsSentence small t → IsSentence big t
  sentence_stays t h =
      let f = sentence_formula small t h in
      sentence_from big t (formula_from big t (type_stays t [] bool_ty (formula_typed small t f)) (formula_aux_free small t f)) (sentence_var_free small t h)
