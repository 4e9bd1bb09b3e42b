-- An equation's sides, and the variables of a term.
use Rattle.std.proofs.Common.{◌≡◌, ℕ, Bool, true, false, ◌&&◌, ◌||◌, ◌==◌, if◌then◌else◌, IsTrue, List, slice_get, Some, None, refl, sym, ap, subst, ◌∙◌, arith}
use Rattle.std.specs.Prelude.{Option}
use Rattle.std.proofs.lemmas.Bool.Decides.{nat_tests}
use Rattle.hol_terms.specs.declared.ty.Ty.{Ty}
use Rattle.hol_terms.specs.declared.konst.Konst.{Konst}
use Rattle.hol_terms.specs.declared.konst.Konst.TheVariants as konst
use Rattle.hol_terms.specs.declared.term.Term.{Term, roll-Term, out-Term}
use Rattle.hol_terms.specs.declared.term.Term.TheOpen.{Term-F}
use Rattle.hol_terms.specs.declared.term.Term.TheViews.{out-roll-Term}
use Rattle.hol_terms.specs.Types.{bool_ty, is_ty}
use Rattle.hol_terms.specs.Formulas.{has_ty}
use Rattle.hol_terms.specs.Substitution.{occurs}
use Rattle.hol_terms.proofs.TermCases.{by_cases}
use Rattle.hol_terms.proofs.TyCases.{is_ty_same}
use Rattle.hol_terms.proofs.Both.{both_true}
use Rattle.hol_terms.proofs.Equations.{occurs-bound, occurs-free, occurs-con, occurs-app, occurs-lam}
use Rattle.hol_formulas.specs.Atoms.{sides, sides_at, sides_of_function, sides_of_head, sides_of_konst}
use Rattle.kernel_rules.specs.Connectives.{equal, apply, constant, lambda}
use Rattle.hol_clausify.specs.Variables.{each_free, has_number}
use Rattle.hol_clausify.proofs.Free.{free-free, app_free, free-lam}

-- ---- sides
-- `t` is `s = u`, at another type than bool
pub record IsEquation (t s u : Term) : Type 0 where
  pub ty : Ty
  pub is : t ≡ equal ty s u
  pub other : is_ty ty bool_ty ≡ false

abbrev Pair : Type 0
Pair = Term × Term

no_some : {X : Type 0} (x : X) → None ≡ Some x → ⊥
no_some x h = cc

same_some : {X : Type 0} (x y : X) → Some x ≡ Some y → x ≡ y
same_some x y h = cc

at_eq : (a : Ty) (p q : Pair) (b : Bool) → is_ty a bool_ty ≡ b → (if b then None else Some p) ≡ Some q → IsEquation (equal a p.0 p.1) q.0 q.1
at_eq a p q true e h = absurd (no_some q h)
at_eq a p q false e h =
    let both = same_some p q h in
    record { ty = a; is = (λ i. equal a (both i).0 (both i).1); other = e }

at_konst : (k : Konst) (s u : Term) (q : Pair) → sides_of_konst k s u ≡ Some q → IsEquation (apply (apply (constant k) s) u) q.0 q.1
at_konst (konst.Eq a) s u q h = at_eq a (s, u) q (is_ty a bool_ty) refl h
at_konst (konst.Named n) s u q h = absurd (no_some q h)
at_konst (konst.Aux n) s u q h = absurd (no_some q h)
at_konst konst.True s u q h = absurd (no_some q h)
at_konst konst.False s u q h = absurd (no_some q h)
at_konst konst.Not s u q h = absurd (no_some q h)
at_konst konst.And s u q h = absurd (no_some q h)
at_konst konst.Or s u q h = absurd (no_some q h)
at_konst konst.Imp s u q h = absurd (no_some q h)
at_konst (konst.All a) s u q h = absurd (no_some q h)
at_konst (konst.Ex a) s u q h = absurd (no_some q h)
at_konst (konst.Eps a) s u q h = absurd (no_some q h)

abbrev Head : Term → Type 0
Head f = (s u : Term) (q : Pair) → sides_of_head (out-Term f) s u ≡ Some q → IsEquation (apply (apply f s) u) q.0 q.1

none_head : (l : Term-F Term) → ((s u : Term) → sides_of_head l s u ≡ None) → Head (roll-Term l)
none_head l none s u q h = absurd (no_some q (sym (none s u) ∙ sym (ap (λ l. sides_of_head l s u) (out-roll-Term l)) ∙ h))

at_head : (f : Term) → Head f
at_head =
    by_cases Head (λ i. none_head (Term-F.Bound i) (λ s u. refl)) (λ n a. none_head (Term-F.Free n a) (λ s u. refl))
    (λ k s u q h. at_konst k s u q (sym (ap (λ l. sides_of_head l s u) (out-roll-Term (Term-F.Con k))) ∙ h))
    (λ f x hf hx. none_head (Term-F.App f x) (λ s u. refl)) (λ a b hb. none_head (Term-F.Lam a b) (λ s u. refl))

abbrev Function : Term → Type 0
Function f = (u : Term) (q : Pair) → sides_of_function (out-Term f) u ≡ Some q → IsEquation (apply f u) q.0 q.1

none_function : (l : Term-F Term) → ((u : Term) → sides_of_function l u ≡ None) → Function (roll-Term l)
none_function l none u q h = absurd (no_some q (sym (none u) ∙ sym (ap (λ l. sides_of_function l u) (out-roll-Term l)) ∙ h))

at_function : (f : Term) → Function f
at_function =
    by_cases Function (λ i. none_function (Term-F.Bound i) (λ u. refl)) (λ n a. none_function (Term-F.Free n a) (λ u. refl)) (λ k. none_function (Term-F.Con k) (λ u. refl))
    (λ f x hf hx u q h. at_head f x u q (sym (ap (λ l. sides_of_function l u) (out-roll-Term (Term-F.App f x))) ∙ h))
    (λ a b hb. none_function (Term-F.Lam a b) (λ u. refl))

abbrev Told : Term → Type 0
Told t = (q : Pair) → sides t ≡ Some q → IsEquation t q.0 q.1

none_told : (l : Term-F Term) → sides_at l ≡ None → Told (roll-Term l)
none_told l none q h = absurd (no_some q (sym none ∙ sym (ap sides_at (out-roll-Term l)) ∙ h))

pub sides_told : (t : Term) → Told t
sides_told =
    by_cases Told (λ i. none_told (Term-F.Bound i) refl) (λ n a. none_told (Term-F.Free n a) refl) (λ k. none_told (Term-F.Con k) refl)
    (λ f x hf hx q h. at_function f x q (sym (ap sides_at (out-roll-Term (Term-F.App f x))) ∙ h)) (λ a b hb. none_told (Term-F.Lam a b) refl)

-- ---- variables whose numbers tell their types
module _ (types : List Ty) (n : ℕ) (a : Ty) where
  abbrev Numbered : Term → Type 0
  Numbered t = IsTrue (each_free (has_number types) t) → IsTrue (occurs n a t) → slice_get types n ≡ Some a

  typed_at : (o : Option Ty) → IsTrue (has_ty o a) → o ≡ Some a
  typed_at None h = absurd cc
  typed_at (Some b) h = ap Some (is_ty_same b a h)

  numbered_free : (m : ℕ) (b : Ty) → Numbered (roll-Term (Term-F.Free m b))
  numbered_free m b passes o =
      let both = both_true (m == n) (is_ty b a) (subst IsTrue (occurs-free n a m b) o) in
      let number : m ≡ n = (let e : (m == n) ≡ true = both.0 in grind (arith, nat_tests)) in
      let ty = is_ty_same b a both.1 in
      typed_at (slice_get types n) (subst (λ c. IsTrue (has_ty (slice_get types n) c)) ty (subst (λ k. IsTrue (has_ty (slice_get types k) b)) number (subst IsTrue (free-free (has_number types) m b) passes)))

  either : (b c : Bool) → IsTrue (b || c) → (IsTrue b → slice_get types n ≡ Some a) → (IsTrue c → slice_get types n ≡ Some a) → slice_get types n ≡ Some a
  either true c h f g = f refl
  either false c h f g = g h

  numbered_app : (f x : Term) → Numbered f → Numbered x → Numbered (apply f x)
  numbered_app f x hf hx passes o =
      let both = app_free (has_number types) f x passes in
      either (occurs n a f) (occurs n a x) (subst IsTrue (occurs-app n a f x) o) (hf both.0) (hx both.1)

  pub numbered : (t : Term) → Numbered t
  numbered =
      by_cases Numbered (λ i passes o. (let no : false ≡ true = sym (occurs-bound n a i) ∙ o in absurd cc)) numbered_free (λ k passes o. (let no : false ≡ true = sym (occurs-con n a k) ∙ o in absurd cc)) numbered_app
      (λ c b hb passes o. hb (subst IsTrue (free-lam (has_number types) c b) passes) (subst IsTrue (occurs-lam n a c b) o))
