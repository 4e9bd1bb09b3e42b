-- Abstraction over a variable keeps types.
use Rattle.std.proofs.Common.{◌≡◌, ℕ, ◌+◌, ◌-◌, ◌<◌, Bool, true, false, ◌&&◌, ◌==◌, if◌then◌else◌, IsTrue, nat_lt, ap, subst, refl, sym, ◌∙◌, rules, arith, List, ◌∷◌, ◌++◌, length, slice_get, Some}
use Rattle.hol_terms.specs.declared.ty.Ty.{Ty}
use Rattle.hol_terms.specs.declared.konst.Konst.{Konst}
use Rattle.hol_terms.specs.declared.sig.Sig.{Sig}
use Rattle.hol_terms.specs.declared.term.Term.{Term, roll-Term}
use Rattle.hol_terms.specs.declared.term.Term.TheOpen.{Term-F}
use Rattle.hol_terms.specs.Types.{is_ty, ty_fits}
use Rattle.hol_terms.specs.Substitution.{abstracted_at}
use Rattle.hol_terms.specs.Typing.{type_in, checked}
use Rattle.hol_terms.proofs.TermCases.{by_cases}
use Rattle.hol_terms.proofs.TyCases.{is_ty_same}
use Rattle.hol_terms.proofs.Both.{both_true}
use Rattle.hol_terms.proofs.Preserves.{slice_get_front}
use Rattle.hol_terms.proofs.Substitutes.{get_middle, get_behind}
use Rattle.hol_terms.proofs.Equations.{type-bound, type-free, type-con, type-app, type-lam, abstracted-bound, abstracted-free, abstracted-con, abstracted-app, abstracted-lam}

pub checked_fits : (types : ℕ) (a : Ty) → IsTrue (ty_fits types a) → checked types a a ≡ Some a
checked_fits types a h = rw h refl

module _ (sig : Sig) (n : ℕ) (a : Ty) (fits : IsTrue (ty_fits sig.types a)) where
  abbrev Fits : Term → Type 0
  Fits t = (c d : List Ty) → type_in sig (abstracted_at n a t (length c)) (c ++ a ∷ d) ≡ type_in sig t (c ++ d)

  moved : (i : ℕ) (c d : List Ty) (b : Bool) → nat_lt i (length c) ≡ b → slice_get (c ++ a ∷ d) (if b then i else i + 1) ≡ slice_get (c ++ d) i
  moved i c d true h = slice_get_front c (a ∷ d) i h ∙ sym (slice_get_front c d i h)
  moved i c d false h =
      let beyond : length c < i + 1 = search (rules, h) in
      let back : i + 1 - 1 ≡ i = omega arith in
      get_behind c d a (i + 1) beyond ∙ ap (slice_get (c ++ d)) back

  bound : (i : ℕ) → Fits (roll-Term (Term-F.Bound i))
  bound i c d =
      ap (λ t. type_in sig t (c ++ a ∷ d)) (abstracted-bound n a i (length c)) ∙ type-bound sig (if nat_lt i (length c) then i else i + 1) (c ++ a ∷ d)
      ∙ moved i c d (nat_lt i (length c)) refl ∙ sym (type-bound sig i (c ++ d))

  variable : (m : ℕ) (b : Ty) (c d : List Ty) (here : Bool) → (here ≡ true → b ≡ a) →
      type_in sig (if here then roll-Term (Term-F.Bound (length c)) else roll-Term (Term-F.Free m b)) (c ++ a ∷ d) ≡ checked sig.types b b
  variable m b c d true h =
      type-bound sig (length c) (c ++ a ∷ d) ∙ get_middle c d a ∙ sym (checked_fits sig.types a fits) ∙ ap (λ z. checked sig.types z z) (sym (h refl))
  variable m b c d false h = type-free sig m b (c ++ a ∷ d)

  free : (m : ℕ) (b : Ty) → Fits (roll-Term (Term-F.Free m b))
  free m b c d =
      ap (λ t. type_in sig t (c ++ a ∷ d)) (abstracted-free n a m b (length c))
      ∙ variable m b c d (m == n && is_ty b a) (λ h. is_ty_same b a (both_true (m == n) (is_ty b a) h).1) ∙ sym (type-free sig m b (c ++ d))

  con : (k : Konst) → Fits (roll-Term (Term-F.Con k))
  con k c d = ap (λ t. type_in sig t (c ++ a ∷ d)) (abstracted-con n a k (length c)) ∙ type-con sig k (c ++ a ∷ d) ∙ sym (type-con sig k (c ++ d))

  app : (f x : Term) → Fits f → Fits x → Fits (roll-Term (Term-F.App f x))
  app f x hf hx c d =
      let left = hf c d in
      let right = hx c d in
      rw (abstracted-app n a f x (length c), type-app sig (abstracted_at n a f (length c)) (abstracted_at n a x (length c)) (c ++ a ∷ d), type-app sig f x (c ++ d), left, right) refl

  lam : (b : Ty) (t : Term) → Fits t → Fits (roll-Term (Term-F.Lam b t))
  lam b t ht c d =
      let longer : length (b ∷ c) ≡ length c + 1 = omega arith in
      let inner = subst (λ z. type_in sig (abstracted_at n a t z) (b ∷ (c ++ a ∷ d)) ≡ type_in sig t (b ∷ (c ++ d))) longer (ht (b ∷ c) d) in
      rw (abstracted-lam n a b t (length c), type-lam sig b (abstracted_at n a t (length c + 1)) (c ++ a ∷ d), type-lam sig b t (c ++ d), inner) refl

  pub type_abstracted : (t : Term) → Fits t
  type_abstracted t = by_cases Fits bound free con app lam t
