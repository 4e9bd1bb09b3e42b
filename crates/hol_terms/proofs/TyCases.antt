-- Induction over types, and the test of equality.
use Rattle.std.proofs.Common.{◌≡◌, ℕ, true, ◌&&◌, subst, sym, ◌∙◌, rules}
use Rattle.hol_terms.specs.declared.ty.Ty.{Ty, roll-Ty}
use Rattle.hol_terms.specs.declared.ty.Ty.TheOpen.{Ty-F}
use Rattle.hol_terms.specs.declared.ty.Ty.TheFolds.{ind-Ty, map-Ty, the_lemmas}
use Rattle.hol_terms.specs.Types.{is_ty}
use Rattle.hol_terms.proofs.Both.{both_true, and_true}

module _ (P : Ty → Type 0) (base : (a : ℕ) → P (roll-Ty (Ty-F.Base a))) (arrow : (a b : Ty) → P a → P b → P (roll-Ty (Ty-F.Arrow a b))) where
  at : (y : Ty-F ((t : Ty) × P t)) → P (roll-Ty (map-Ty ((t : Ty) × P t) Ty (λ e. e.0) y))
  at (Ty-F.Base a) = base a
  at (Ty-F.Arrow a b) = arrow a.0 b.0 a.1 b.1

  pub by_cases : (t : Ty) → P t
  by_cases = ind-Ty P (λ x y is. subst (λ z. P (roll-Ty z)) is (at y))

-- a type is the same as itself
refl_base : (a : ℕ) → is_ty (roll-Ty (Ty-F.Base a)) (roll-Ty (Ty-F.Base a)) ≡ true
refl_base a = search (rules, the_lemmas)

parts : (a b c d : Ty) → is_ty (roll-Ty (Ty-F.Arrow a b)) (roll-Ty (Ty-F.Arrow c d)) ≡ (is_ty a c && is_ty b d)
parts a b c d = search (rules, the_lemmas)

refl_arrow : (a b : Ty) → is_ty a a ≡ true → is_ty b b ≡ true → is_ty (roll-Ty (Ty-F.Arrow a b)) (roll-Ty (Ty-F.Arrow a b)) ≡ true
refl_arrow a b ha hb = parts a b a b ∙ and_true (is_ty a a) (is_ty b b) ha hb

pub is_ty_itself : (t : Ty) → is_ty t t ≡ true
is_ty_itself t = by_cases (λ s. is_ty s s ≡ true) refl_base refl_arrow t

-- the test tells any two types apart
abbrev Told : Ty → Type 0
Told s = (t : Ty) → is_ty s t ≡ true → s ≡ t

told_base : (a : ℕ) → Told (roll-Ty (Ty-F.Base a))
told_base a t = by_cases (λ t. is_ty (roll-Ty (Ty-F.Base a)) t ≡ true → roll-Ty (Ty-F.Base a) ≡ t) (λ b h. search (rules, the_lemmas)) (λ c d _ _ h. search (rules, the_lemmas)) t

told_arrow : (a b : Ty) → Told a → Told b → Told (roll-Ty (Ty-F.Arrow a b))
told_arrow a b ha hb t =
    by_cases (λ t. is_ty (roll-Ty (Ty-F.Arrow a b)) t ≡ true → roll-Ty (Ty-F.Arrow a b) ≡ t) (λ c h. search (rules, the_lemmas))
    (λ c d _ _ h. let both = both_true (is_ty a c) (is_ty b d) (sym (parts a b c d) ∙ h) in let left = ha c both.0 in let right = hb d both.1 in cc) t

pub is_ty_same : (s t : Ty) → is_ty s t ≡ true → s ≡ t
is_ty_same s = by_cases Told told_base told_arrow s
