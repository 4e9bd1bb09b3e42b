-- The test at each variable of a term is the test at every number.
use Rattle.std.proofs.Common.{◌≡◌, ◌↔◌, ℕ, zero, suc, ◌+◌, ◌<◌, ◌≤◌, Bool, true, false, ◌==◌, ◌&&◌, if◌then◌else◌, nat_le, IsTrue, List, [], ◌∷◌, map, sym, ap, subst, refl, ◌∙◌, arith, rules}
use Rattle.std.proofs.lemmas.List.Sums.{sum_by-cons}
use Rattle.fo_terms.specs.declared.term.FoTerm.{FoTerm}
use Rattle.fo_terms.specs.Substitution.{var, fun}
use Rattle.fo_terms.specs.declared.term.FoTerm.TheOpen.{FoTerm-F}
use Rattle.fo_terms.specs.declared.term.FoTerm.TheVariants.{rolls-Var, rolls-Fun}
use Rattle.fo_terms.specs.declared.term.FoTerm.TheFolds.{fold-roll-FoTerm}
use Rattle.fo_terms.specs.Weight.{capped}
use Rattle.fo_order.specs.Counts.{count_of, count_of_all, count_step, covered_at, covered_all, covered_step, Covers}
use Rattle.fo_terms.proofs.Induction.{Each, by_cases}

count_var : (x y : ℕ) → count_of x (var y) ≡ (if x == y then 1 else 0)
count_var x y = ap (count_of x) (sym (rolls-Var y)) ∙ fold-roll-FoTerm ℕ (count_step x) (FoTerm-F.Var y)

count_fun : (x f : ℕ) (args : List FoTerm) → count_of x (fun f args) ≡ count_of_all x args
count_fun x f args = ap (count_of x) (sym (rolls-Fun f args)) ∙ fold-roll-FoTerm ℕ (count_step x) (FoTerm-F.Fun f args)

covered_var : (s t : FoTerm) (y : ℕ) → covered_at s t (var y) ≡ nat_le (capped (count_of y t)) (capped (count_of y s))
covered_var s t y = ap (covered_at s t) (sym (rolls-Var y)) ∙ fold-roll-FoTerm Bool (covered_step s t) (FoTerm-F.Var y)

covered_fun : (s t : FoTerm) (f : ℕ) (args : List FoTerm) → covered_at s t (fun f args) ≡ covered_all s t args
covered_fun s t f args = ap (covered_at s t) (sym (rolls-Fun f args)) ∙ fold-roll-FoTerm Bool (covered_step s t) (FoTerm-F.Fun f args)

both_true : (a b : Bool) → IsTrue (a && b) → IsTrue a × IsTrue b
both_true true true h = (refl, refl)
both_true true false h = cc
both_true false b h = cc

true_both : (a b : Bool) → IsTrue a → IsTrue b → IsTrue (a && b)
true_both a b h k = search (rules, h, k)

le_from : (a b : ℕ) → IsTrue (nat_le a b) → a ≤ b
le_from a b h = search (rules, h)

le_true : (a b : ℕ) → a ≤ b → IsTrue (nat_le a b)
le_true a b h = search (rules, h)

equal_from : (x y : ℕ) → IsTrue (x == y) → x ≡ y
equal_from x y h = search (rules, h)

either : (n m : ℕ) (P : Type 0) → 0 < n + m → (0 < n → P) → (0 < m → P) → P
either zero m P more left right = right (omega arith)
either (suc n) m P more left right = left (omega arith)

module _ (s t : FoTerm) where
  abbrev Point : ℕ → Type 0
  Point x = capped (count_of x t) ≤ capped (count_of x s)

  abbrev Here : FoTerm → Type 0
  Here u = IsTrue (covered_at s t u) → (x : ℕ) → 0 < count_of x u → Point x

  at_var : (x y : ℕ) (test : Bool) → (x == y) ≡ test → Point y → 0 < (if test then 1 else 0) → Point x
  at_var x y true e point more = subst Point (sym (equal_from x y e)) point
  at_var x y false e point more = absurd (omega arith)

  at_all : (us : List FoTerm) → Each Here us → IsTrue (covered_all s t us) → (x : ℕ) → 0 < count_of_all x us → Point x
  at_all [] each h x more = absurd (omega arith)
  at_all (u ∷ us) each h x more =
      let both = both_true (covered_at s t u) (covered_all s t us) h in
      let split : count_of_all x (u ∷ us) ≡ count_of x u + count_of_all x us = sum_by-cons (λ n. n) (count_of x u) (map (count_of x) us) in
      either (count_of x u) (count_of_all x us) (Point x) (omega arith) (each.0 both.0 x) (at_all us each.1 both.1 x)

  here : (u : FoTerm) → Here u
  here = by_cases Here
      (λ y h x more. at_var x y (x == y) refl (le_from (capped (count_of y t)) (capped (count_of y s)) (subst IsTrue (covered_var s t y) h)) (subst (λ n. 0 < n) (count_var x y) more))
      (λ f args each h x more. at_all args each (subst IsTrue (covered_fun s t f args) h) x (subst (λ n. 0 < n) (count_fun x f args) more))

  abbrev There : FoTerm → Type 0
  There u = Covers s t → IsTrue (covered_at s t u)

  there_all : (us : List FoTerm) → Each There us → Covers s t → IsTrue (covered_all s t us)
  there_all [] each h = refl
  there_all (u ∷ us) each h = true_both (covered_at s t u) (covered_all s t us) (each.0 h) (there_all us each.1 h)

  there : (u : FoTerm) → There u
  there = by_cases There
      (λ y h. subst IsTrue (sym (covered_var s t y)) (le_true (capped (count_of y t)) (capped (count_of y s)) (h y)))
      (λ f args each h. subst IsTrue (sym (covered_fun s t f args)) (there_all args each h))

  point_at : (x n : ℕ) → count_of x t ≡ n → IsTrue (covered_at s t t) → Point x
  point_at x zero is h = omega arith
  point_at x (suc n) is h = let more : 0 < count_of x t = omega arith in here t h x more

  pub covers_is : IsTrue (covered_at s t t) ↔ Covers s t
  covers_is = (λ h x. point_at x (count_of x t) refl h, λ h. there t h)
