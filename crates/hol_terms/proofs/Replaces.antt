-- A term of the variable's type, put for the variable, keeps types.
use Rattle.std.proofs.Common.{◌≡◌, ℕ, Bool, true, false, ◌&&◌, ◌==◌, if◌then◌else◌, IsTrue, ap, refl, sym, ◌∙◌, List, [], ◌∷◌, Some}
use Rattle.hol_terms.specs.declared.ty.Ty.{Ty}
use Rattle.hol_terms.specs.declared.konst.Konst.{Konst}
use Rattle.hol_terms.specs.declared.sig.Sig.{Sig}
use Rattle.hol_terms.specs.declared.term.Term.{Term, roll-Term}
use Rattle.hol_terms.specs.declared.term.Term.TheOpen.{Term-F}
use Rattle.hol_terms.specs.Types.{is_ty, ty_fits}
use Rattle.hol_terms.specs.Substitution.{put_free, one_put}
use Rattle.hol_terms.specs.Typing.{type_in, checked}
use Rattle.hol_terms.proofs.TermCases.{by_cases}
use Rattle.hol_terms.proofs.TyCases.{is_ty_same}
use Rattle.hol_terms.proofs.Both.{both_true}
use Rattle.hol_terms.proofs.Closed.{typed_closed}
use Rattle.hol_terms.proofs.Preserves.{type_closed}
use Rattle.hol_terms.proofs.Abstracts.{checked_fits}
use Rattle.hol_terms.proofs.Equations.{type-free, type-app, type-lam, put_free-bound, put_free-free, put_free-con, put_free-app, put_free-lam}

module _ (sig : Sig) (n : ℕ) (a : Ty) (u : Term) (fits : IsTrue (ty_fits sig.types a)) (typed : type_in sig u [] ≡ Some a) where
  abbrev Fits : Term → Type 0
  Fits t = (c : List Ty) → type_in sig (put_free (one_put n a u) t) c ≡ type_in sig t c

  put_in : (c : List Ty) → type_in sig u c ≡ Some a
  put_in c = type_closed sig u [] c (typed_closed sig u [] a typed) ∙ typed

  variable : (m : ℕ) (b : Ty) (c : List Ty) (here : Bool) → (here ≡ true → b ≡ a) → type_in sig (if here then u else roll-Term (Term-F.Free m b)) c ≡ checked sig.types b b
  variable m b c true h = put_in c ∙ sym (checked_fits sig.types a fits) ∙ ap (λ z. checked sig.types z z) (sym (h refl))
  variable m b c false h = type-free sig m b c

  bound : (i : ℕ) → Fits (roll-Term (Term-F.Bound i))
  bound i c = ap (λ t. type_in sig t c) (put_free-bound (one_put n a u) i)

  free : (m : ℕ) (b : Ty) → Fits (roll-Term (Term-F.Free m b))
  free m b c =
      ap (λ t. type_in sig t c) (put_free-free (one_put n a u) m b) ∙ variable m b c (m == n && is_ty b a) (λ h. is_ty_same b a (both_true (m == n) (is_ty b a) h).1) ∙ sym (type-free sig m b c)

  con : (k : Konst) → Fits (roll-Term (Term-F.Con k))
  con k c = ap (λ t. type_in sig t c) (put_free-con (one_put n a u) k)

  app : (f x : Term) → Fits f → Fits x → Fits (roll-Term (Term-F.App f x))
  app f x hf hx c =
      let left = hf c in
      let right = hx c in
      rw (put_free-app (one_put n a u) f x, type-app sig (put_free (one_put n a u) f) (put_free (one_put n a u) x) c, type-app sig f x c, left, right) refl

  lam : (b : Ty) (t : Term) → Fits t → Fits (roll-Term (Term-F.Lam b t))
  lam b t ht c =
      let inner = ht (b ∷ c) in
      rw (put_free-lam (one_put n a u) b t, type-lam sig b (put_free (one_put n a u) t) c, type-lam sig b t c, inner) refl

  pub type_replaced : (t : Term) → Fits t
  type_replaced t = by_cases Fits bound free con app lam t
