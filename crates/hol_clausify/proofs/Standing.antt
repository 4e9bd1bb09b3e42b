-- What is expanded over a table whose entries stand alone.
use Rattle.std.proofs.Common.{◌≡◌, ℕ, IsTrue, List, [], ◌∷◌, length, slice_get, get_or, ap, subst, refl, sym, ◌∙◌, Some, None}
use Rattle.std.specs.Prelude.{Option}
use Rattle.std.specs.Option.{option_map}
use Rattle.std.proofs.lemmas.Option.{slice_get-map, slice_get-get_or}
use Rattle.hol_terms.specs.declared.ty.Ty.{Ty}
use Rattle.hol_terms.specs.declared.konst.Konst.{Konst}
use Rattle.hol_terms.specs.declared.konst.Konst.TheVariants as konst
use Rattle.hol_terms.specs.declared.sig.Sig.{Sig}
use Rattle.hol_terms.specs.declared.term.Term.{Term, roll-Term}
use Rattle.hol_terms.specs.declared.term.Term.TheOpen.{Term-F}
use Rattle.hol_terms.specs.Types.{function_ty}
use Rattle.hol_terms.specs.Typing.{type_in, type_of_term, applied, fitting, konst_type}
use Rattle.hol_terms.specs.Formulas.{aux_free, typed_as}
use Rattle.hol_terms.proofs.TermCases.{by_cases}
use Rattle.hol_terms.proofs.Both.{both_true, and_true}
use Rattle.hol_terms.proofs.Closed.{typed_closed}
use Rattle.hol_terms.proofs.Preserves.{type_closed}
use Rattle.hol_terms.proofs.Formulas.{is_typed_as}
use Rattle.kernel_rules.specs.Rules.{is_given}
use Rattle.hol_kernel.specs.Conditions.{IsGiven}
use Rattle.hol_terms.proofs.TypedParts.{checked_some, applied_fits, applied_parts, under_parts, under_so}
use Rattle.hol_terms.proofs.Equations.{type-bound, type-free, type-con, type-app, type-lam, aux_free-bound, aux_free-free, aux_free-con, aux_free-app, aux_free-lam}
use Rattle.kernel_rules.specs.Connectives.{apply, lambda, constant}
use Rattle.lambda_lift.specs.declared.table.Aux.{Aux}
use Rattle.lambda_lift.specs.Tables.{expand, expanded_konst, expanded_at}
use Rattle.lambda_lift.specs.Standing.{Each, over, StandsAlone, aux_below, konst_below}
use Rattle.lambda_lift.specs.Lifting.{no_entry}
use Rattle.lambda_lift.proofs.Expansions.{expand_bound, expand_free, expand_con, expand_app, expand_lam}
use Rattle.lambda_lift.proofs.Typings.{typed_known}
use Rattle.hol_derived.proofs.PutPut.{bound}
use Rattle.hol_clausify.specs.Laws.{ClosedTable}
use Rattle.hol_clausify.proofs.Wider.{less}
use Rattle.hol_clausify.proofs.Expanding.{below-con, below-app, below-lam}

module _ (sig : Sig) (table : List Aux) (alone : Each (StandsAlone sig) table) where
  pub table_closed : ClosedTable table
  table_closed i e at = typed_closed sig e.closed [] e.ty (alone i e at).typed

  -- ---- types
  entry_typed : (k : ℕ) (o : Option Aux) (a : Ty) (c : List Ty) → slice_get table k ≡ o → fitting sig.types (option_map (λ e. e.ty) o) ≡ Some a → type_in sig (expanded_at k o) c ≡ Some a
  entry_typed k None a c at h = cc
  entry_typed k (Some e) a c at h =
      type_closed sig e.closed [] c (table_closed k e at) ∙ (alone k e at).typed ∙ ap Some (checked_some sig.types e.ty e.ty a h).1

  konst_typed : (k : Konst) (a : Ty) (c : List Ty) → konst_type (over sig table) k ≡ Some a → type_in sig (expanded_konst table k) c ≡ Some a
  konst_typed (konst.Aux k) a c h = entry_typed k (slice_get table k) a c refl (ap (fitting sig.types) (sym (slice_get-map (λ (e : Aux). e.ty) table k)) ∙ h)
  konst_typed (konst.Named n) a c h = type-con sig (konst.Named n) c ∙ h
  konst_typed konst.True a c h = type-con sig konst.True c ∙ h
  konst_typed konst.False a c h = type-con sig konst.False c ∙ h
  konst_typed konst.Not a c h = type-con sig konst.Not c ∙ h
  konst_typed konst.And a c h = type-con sig konst.And c ∙ h
  konst_typed konst.Or a c h = type-con sig konst.Or c ∙ h
  konst_typed konst.Imp a c h = type-con sig konst.Imp c ∙ h
  konst_typed (konst.Eq b) a c h = type-con sig (konst.Eq b) c ∙ h
  konst_typed (konst.All b) a c h = type-con sig (konst.All b) c ∙ h
  konst_typed (konst.Ex b) a c h = type-con sig (konst.Ex b) c ∙ h
  konst_typed (konst.Eps b) a c h = type-con sig (konst.Eps b) c ∙ h

  abbrev Typed : Term → Type 0
  Typed t = (c : List Ty) (a : Ty) → type_in (over sig table) t c ≡ Some a → type_in sig (expand table t) c ≡ Some a

  typed_bound : (i : ℕ) → Typed (bound i)
  typed_bound i c a h = ap (λ t. type_in sig t c) (expand_bound table i) ∙ type-bound sig i c ∙ sym (type-bound (over sig table) i c) ∙ h

  typed_free : (n : ℕ) (b : Ty) → Typed (roll-Term (Term-F.Free n b))
  typed_free n b c a h = ap (λ t. type_in sig t c) (expand_free table n b) ∙ type-free sig n b c ∙ sym (type-free (over sig table) n b c) ∙ h

  typed_con : (k : Konst) → Typed (constant k)
  typed_con k c a h = ap (λ t. type_in sig t c) (expand_con table k) ∙ konst_typed k a c (sym (type-con (over sig table) k c) ∙ h)

  typed_app : (f x : Term) → Typed f → Typed x → Typed (apply f x)
  typed_app f x hf hx c a h =
      let from = applied_parts (type_in (over sig table) f c) (type_in (over sig table) x c) a (sym (type-app (over sig table) f x c) ∙ h) in
      ap (λ t. type_in sig t c) (expand_app table f x) ∙ type-app sig (expand table f) (expand table x) c
      ∙ (λ i. applied (hf c (function_ty from.0 a) from.1.0 i) (hx c from.0 from.1.1 i)) ∙ applied_fits from.0 a

  typed_lam : (b : Ty) (t : Term) → Typed t → Typed (lambda b t)
  typed_lam b t ht c a h =
      let from = under_parts sig.types b (type_in (over sig table) t (b ∷ c)) a (sym (type-lam (over sig table) b t c) ∙ h) in
      ap (λ z. type_in sig z c) (expand_lam table b t) ∙ type-lam sig b (expand table t) c
      ∙ under_so sig.types b (type_in sig (expand table t) (b ∷ c)) from.0 (ht (b ∷ c) from.0 from.1.0) from.1.1.1 ∙ ap Some (sym from.1.1.0)

  pub expand_typed : (t : Term) → Typed t
  expand_typed t = by_cases Typed typed_bound typed_free typed_con typed_app typed_lam t

  -- ---- auxiliary constants
  konst_clean : (k : Konst) → IsTrue (konst_below (length table) k) → IsTrue (aux_free (expanded_konst table k))
  konst_clean (konst.Aux k) h =
      let e = get_or table k no_entry in
      let at : slice_get table k ≡ Some e = slice_get-get_or table k no_entry (less k (length table) h) in
      ap aux_free (ap (expanded_at k) at) ∙ (alone k e at).without_aux
  konst_clean (konst.Named n) h = aux_free-con (konst.Named n)
  konst_clean konst.True h = aux_free-con konst.True
  konst_clean konst.False h = aux_free-con konst.False
  konst_clean konst.Not h = aux_free-con konst.Not
  konst_clean konst.And h = aux_free-con konst.And
  konst_clean konst.Or h = aux_free-con konst.Or
  konst_clean konst.Imp h = aux_free-con konst.Imp
  konst_clean (konst.Eq a) h = aux_free-con (konst.Eq a)
  konst_clean (konst.All a) h = aux_free-con (konst.All a)
  konst_clean (konst.Ex a) h = aux_free-con (konst.Ex a)
  konst_clean (konst.Eps a) h = aux_free-con (konst.Eps a)

  abbrev Clean : Term → Type 0
  Clean t = IsTrue (aux_below (length table) t) → IsTrue (aux_free (expand table t))

  clean_app : (f x : Term) → Clean f → Clean x → Clean (apply f x)
  clean_app f x hf hx h =
      let n = length table in
      let parts = both_true (aux_below n f) (aux_below n x) (subst IsTrue (below-app n f x) h) in
      ap aux_free (expand_app table f x) ∙ aux_free-app (expand table f) (expand table x) ∙ and_true (aux_free (expand table f)) (aux_free (expand table x)) (hf parts.0) (hx parts.1)

  clean_lam : (a : Ty) (b : Term) → Clean b → Clean (lambda a b)
  clean_lam a b hb h = ap aux_free (expand_lam table a b) ∙ aux_free-lam a (expand table b) ∙ hb (subst IsTrue (below-lam (length table) a b) h)

  pub expand_clean : (t : Term) → Clean t
  expand_clean =
      by_cases Clean (λ i h. ap aux_free (expand_bound table i) ∙ aux_free-bound i) (λ n a h. ap aux_free (expand_free table n a) ∙ aux_free-free n a)
      (λ k h. ap aux_free (expand_con table k) ∙ konst_clean k (subst IsTrue (below-con (length table) k) h)) clean_app clean_lam

  -- ---- a typed term, expanded
  pub expand_given : (t : Term) (a : Ty) → type_of_term (over sig table) t ≡ Some a → (type_of_term sig (expand table t) ≡ Some a) × IsTrue (aux_free (expand table t))
  expand_given t a h = (expand_typed t [] a h, expand_clean t (typed_known sig table t [] a h))

  pub given_expanded : (t : Term) (a : Ty) → type_of_term (over sig table) t ≡ Some a → IsGiven sig (expand table t) a
  unfolding is_given
  given_expanded t a h =
      let both = expand_given t a h in and_true (typed_as sig (expand table t) a) (aux_free (expand table t)) (is_typed_as sig (expand table t) a both.0) both.1
