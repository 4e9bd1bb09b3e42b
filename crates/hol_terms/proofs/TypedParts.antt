-- The parts of typed terms, and the types that terms have.
use Rattle.std.proofs.Common.{◌≡◌, ℕ, zero, suc, ◌<◌, Bool, true, false, if◌then◌else◌, IsTrue, ap, subst, refl, sym, ◌∙◌, rules, List, [], ◌∷◌, slice_get, Some, None}
use Rattle.std.specs.Prelude.{Option}
use Rattle.hol_terms.specs.declared.ty.Ty.{Ty, roll-Ty, out-Ty}
use Rattle.hol_terms.specs.declared.ty.Ty.TheOpen.{Ty-F}
use Rattle.hol_terms.specs.declared.ty.Ty.TheFolds.{the_lemmas}
use Rattle.hol_terms.specs.declared.konst.Konst.{Konst}
use Rattle.hol_terms.specs.declared.konst.Konst.TheVariants as konst
use Rattle.hol_terms.specs.declared.sig.Sig.{Sig}
use Rattle.hol_terms.specs.declared.term.Term.{Term, roll-Term}
use Rattle.hol_terms.specs.declared.term.Term.TheOpen.{Term-F}
use Rattle.hol_terms.specs.Types.{is_ty, ty_fits, bool_ty, function_ty}
use Rattle.hol_terms.specs.Typing.{type_in, applied, under, checked, fitting, konst_type}
use Rattle.hol_terms.proofs.TermCases as term
use Rattle.hol_terms.proofs.TyCases.{by_cases, is_ty_same, is_ty_itself}
use Rattle.hol_terms.proofs.Both.{both_true, and_true}
use Rattle.hol_terms.proofs.Equations.{ty_fits-base, ty_fits-arrow, type-bound, type-free, type-con, type-app, type-lam}

if_some : {X : Type 0} (b : Bool) (x y : X) → (if b then Some x else None) ≡ Some y → (b ≡ true) × (x ≡ y)
if_some true x y h = (refl, cc)
if_some false x y h = cc

if_so : {X : Type 0} (b : Bool) (x : X) → b ≡ true → (if b then Some x else None) ≡ Some x
if_so true x h = refl
if_so false x h = cc

pub checked_some : (types : ℕ) (a t s : Ty) → checked types a t ≡ Some s → IsTrue (ty_fits types a) × (t ≡ s)
checked_some types a t s h = if_some (ty_fits types a) t s h

pub checked_so : (types : ℕ) (a t : Ty) → IsTrue (ty_fits types a) → checked types a t ≡ Some t
checked_so types a t h = if_so (ty_fits types a) t h

-- ---- applications
applied-base : (n : ℕ) (x : Ty) → applied (Some (roll-Ty (Ty-F.Base n))) (Some x) ≡ None
applied-base n x = search (rules, the_lemmas)

applied-function : (c d x : Ty) → applied (Some (function_ty c d)) (Some x) ≡ (if is_ty c x then Some d else None)
applied-function c d x = search (rules, the_lemmas)

pub applied_fits : (a b : Ty) → applied (Some (function_ty a b)) (Some a) ≡ Some b
applied_fits a b = applied-function a b a ∙ if_so (is_ty a a) b (is_ty_itself a)

abbrev Parts : Ty → Ty → Ty → Type 0
Parts x s f = applied (Some f) (Some x) ≡ Some s → f ≡ function_ty x s

parts_base : (x s : Ty) (n : ℕ) → Parts x s (roll-Ty (Ty-F.Base n))
parts_base x s n h = let none = applied-base n x in cc

parts_function : (x s c d : Ty) → Parts x s (function_ty c d)
parts_function x s c d h =
    let both = if_some (is_ty c x) d s (sym (applied-function c d x) ∙ h) in
    let left = is_ty_same c x both.0 in
    let right = both.1 in
    cc

parts : (x s f : Ty) → Parts x s f
parts x s f = by_cases (Parts x s) (parts_base x s) (λ c d _ _. parts_function x s c d) f

-- the function of a typed application goes from the argument's type to its own
pub applied_parts : (f x : Option Ty) (s : Ty) → applied f x ≡ Some s → (a : Ty) × ((f ≡ Some (function_ty a s)) × (x ≡ Some a))
applied_parts None x s h = cc
applied_parts (Some f) None s h = cc
applied_parts (Some f) (Some x) s h = (x, (ap Some (parts x s f h), refl))

-- ---- lambdas
pub under_parts : (types : ℕ) (a : Ty) (b : Option Ty) (s : Ty) → under types a b ≡ Some s → (c : Ty) × ((b ≡ Some c) × ((s ≡ function_ty a c) × IsTrue (ty_fits types a)))
under_parts types a None s h = cc
under_parts types a (Some b) s h = let both = checked_some types a (function_ty a b) s h in (b, (refl, (sym both.1, both.0)))

pub under_so : (types : ℕ) (a : Ty) (b : Option Ty) (c : Ty) → b ≡ Some c → IsTrue (ty_fits types a) → under types a b ≡ Some (function_ty a c)
under_so types a None c h fits = cc
under_so types a (Some b) c h fits = checked_so types a (function_ty a b) fits ∙ ap Some (ap (function_ty a) (search (rules, h)))

-- equal function types have equal parts
pub function_parts : (a b c d : Ty) → function_ty a b ≡ function_ty c d → (a ≡ c) × (b ≡ d)
function_parts a b c d h = let out : out-Ty (function_ty a b) ≡ out-Ty (function_ty c d) = ap out-Ty h in (search (rules, the_lemmas, out), search (rules, the_lemmas, out))

-- ---- a typed term has a type of the signature
module _ (sig : Sig) (has_bool : 0 < sig.types) where
  abbrev AllFit : List Ty → Type 0
  AllFit c = (i : ℕ) (a : Ty) → slice_get c i ≡ Some a → IsTrue (ty_fits sig.types a)

  abbrev Fit : Term → Type 0
  Fit t = (c : List Ty) (a : Ty) → AllFit c → type_in sig t c ≡ Some a → IsTrue (ty_fits sig.types a)

  pub bool_fits : IsTrue (ty_fits sig.types bool_ty)
  bool_fits = ty_fits-base sig.types 0 ∙ search (rules, has_bool)

  both_fit : (a b : Ty) → IsTrue (ty_fits sig.types a) → IsTrue (ty_fits sig.types b) → IsTrue (ty_fits sig.types (function_ty a b))
  both_fit a b h k = ty_fits-arrow sig.types a b ∙ and_true (ty_fits sig.types a) (ty_fits sig.types b) h k

  fitting_fits : (o : Option Ty) (a : Ty) → fitting sig.types o ≡ Some a → IsTrue (ty_fits sig.types a)
  fitting_fits None a h = cc
  fitting_fits (Some b) a h = let both = checked_some sig.types b b a h in subst (λ z. IsTrue (ty_fits sig.types z)) both.1 both.0

  constant_fits : (b a : Ty) → Some b ≡ Some a → IsTrue (ty_fits sig.types b) → IsTrue (ty_fits sig.types a)
  constant_fits b a h fits = let same : b ≡ a = cc in subst (λ z. IsTrue (ty_fits sig.types z)) same fits

  carried_fits : (b t a : Ty) → checked sig.types b t ≡ Some a → (IsTrue (ty_fits sig.types b) → IsTrue (ty_fits sig.types t)) → IsTrue (ty_fits sig.types a)
  carried_fits b t a h f = let both = checked_some sig.types b t a h in subst (λ z. IsTrue (ty_fits sig.types z)) both.1 (f both.0)

  binary_fits : IsTrue (ty_fits sig.types (function_ty bool_ty (function_ty bool_ty bool_ty)))
  binary_fits = both_fit bool_ty (function_ty bool_ty bool_ty) bool_fits (both_fit bool_ty bool_ty bool_fits bool_fits)

  konst_fits : (k : Konst) (a : Ty) → konst_type sig k ≡ Some a → IsTrue (ty_fits sig.types a)
  konst_fits (konst.Named n) a h = fitting_fits (slice_get sig.consts n) a h
  konst_fits (konst.Aux n) a h = fitting_fits (slice_get sig.aux n) a h
  konst_fits konst.True a h = constant_fits bool_ty a h bool_fits
  konst_fits konst.False a h = constant_fits bool_ty a h bool_fits
  konst_fits konst.Not a h = constant_fits (function_ty bool_ty bool_ty) a h (both_fit bool_ty bool_ty bool_fits bool_fits)
  konst_fits konst.And a h = constant_fits (function_ty bool_ty (function_ty bool_ty bool_ty)) a h binary_fits
  konst_fits konst.Or a h = constant_fits (function_ty bool_ty (function_ty bool_ty bool_ty)) a h binary_fits
  konst_fits konst.Imp a h = constant_fits (function_ty bool_ty (function_ty bool_ty bool_ty)) a h binary_fits
  konst_fits (konst.Eq b) a h = carried_fits b (function_ty b (function_ty b bool_ty)) a h (λ fits. both_fit b (function_ty b bool_ty) fits (both_fit b bool_ty fits bool_fits))
  konst_fits (konst.All b) a h = carried_fits b (function_ty (function_ty b bool_ty) bool_ty) a h (λ fits. both_fit (function_ty b bool_ty) bool_ty (both_fit b bool_ty fits bool_fits) bool_fits)
  konst_fits (konst.Ex b) a h = carried_fits b (function_ty (function_ty b bool_ty) bool_ty) a h (λ fits. both_fit (function_ty b bool_ty) bool_ty (both_fit b bool_ty fits bool_fits) bool_fits)
  konst_fits (konst.Eps b) a h = carried_fits b (function_ty (function_ty b bool_ty) b) a h (λ fits. both_fit (function_ty b bool_ty) b (both_fit b bool_ty fits bool_fits) fits)

  free_fits : (n : ℕ) (b : Ty) → Fit (roll-Term (Term-F.Free n b))
  free_fits n b c a each h = carried_fits b b a (sym (type-free sig n b c) ∙ h) (λ fits. fits)

  app_fits : (f x : Term) → Fit f → Fit x → Fit (roll-Term (Term-F.App f x))
  app_fits f x hf hx c a each h =
      let from = applied_parts (type_in sig f c) (type_in sig x c) a (sym (type-app sig f x c) ∙ h) in
      (both_true (ty_fits sig.types from.0) (ty_fits sig.types a) (sym (ty_fits-arrow sig.types from.0 a) ∙ hf c (function_ty from.0 a) each from.1.0)).1

  lam_fits : (b : Ty) (t : Term) → Fit t → Fit (roll-Term (Term-F.Lam b t))
  lam_fits b t ht c a each h =
      let from = under_parts sig.types b (type_in sig t (b ∷ c)) a (sym (type-lam sig b t c) ∙ h) in
      subst (λ z. IsTrue (ty_fits sig.types z)) (sym from.1.1.0) (both_fit b from.0 from.1.1.1 (ht (b ∷ c) from.0 (more from.1.1.1) from.1.0))
    where
      more : IsTrue (ty_fits sig.types b) → AllFit (b ∷ c)
      more fits zero a e = let same : b ≡ a = cc in subst (λ z. IsTrue (ty_fits sig.types z)) same fits
      more fits (suc i) a e = each i a e

  pub type_fits : (t : Term) → Fit t
  type_fits t = term.by_cases Fit (λ i c a each h. each i a (sym (type-bound sig i c) ∙ h)) free_fits (λ k c a each h. konst_fits k a (sym (type-con sig k c) ∙ h)) app_fits lam_fits t

  -- of a term that stands alone
  pub own_type_fits : (t : Term) (a : Ty) → type_in sig t [] ≡ Some a → IsTrue (ty_fits sig.types a)
  own_type_fits t a h = type_fits t [] a (λ i b e. cc) h
