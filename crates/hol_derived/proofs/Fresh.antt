-- A body that is opened with a variable that it lacks.
use Rattle.std.proofs.Common.{◌≡◌, ℕ, ◌+◌, ◌-◌, ◌<◌, Bool, true, false, ◌&&◌, ◌||◌, ◌==◌, if◌then◌else◌, nat_lt, ap, refl, sym, ◌∙◌, rules, arith}
use Rattle.hol_terms.specs.declared.ty.Ty.{Ty}
use Rattle.hol_terms.specs.declared.konst.Konst.{Konst}
use Rattle.hol_terms.specs.declared.term.Term.{Term, roll-Term}
use Rattle.hol_terms.specs.declared.term.Term.TheOpen.{Term-F}
use Rattle.hol_terms.specs.declared.term.Term.TheFolds.{the_lemmas}
use Rattle.hol_terms.specs.Types.{is_ty}
use Rattle.hol_terms.specs.Substitution.{lift, put, abstracted_at, occurs}
use Rattle.hol_terms.proofs.TermCases.{by_cases}
use Rattle.hol_terms.proofs.TyCases.{is_ty_itself}
use Rattle.hol_terms.proofs.Equations.{abstracted-free, abstracted-con, abstracted-app, abstracted-lam, put-free, put-con, put-app, put-lam, occurs-free, occurs-bound, occurs-con, occurs-app, occurs-lam, lift-bound, lift-app, lift-lam, lift-free, lift-con}
use Rattle.kernel_rules.specs.Connectives.{apply, lambda}
use Rattle.hol_derived.proofs.PutPut.{bound, put_below, put_above, put_here, put_v}

pub neither : (b c : Bool) → (b || c) ≡ false → (b ≡ false) × (c ≡ false)
neither true c h = cc
neither false c h = (refl, h)

pub both_false : (b c : Bool) → b ≡ false → c ≡ false → (b || c) ≡ false
both_false b c h k = (λ i. h i || k i)

itself : (n : ℕ) (b : Bool) → b ≡ true → (n == n && b) ≡ true
itself n b h = search (rules, h)

own : (b : Bool) (s t : Term) → b ≡ true → (if b then s else t) ≡ s
own true s t h = refl
own false s t h = cc

other : (b : Bool) (s t : Term) → b ≡ false → (if b then s else t) ≡ t
other true s t h = cc
other false s t h = refl

module _ (n : ℕ) (a : Ty) where
  abbrev v : Term
  v = roll-Term (Term-F.Free n a)

  abs_below : (i k : ℕ) → i < k → abstracted_at n a (bound i) k ≡ bound i
  abs_below i k h = search (rules, the_lemmas)

  abs_above : (i j k : ℕ) → k < i + 1 → j ≡ i + 1 → abstracted_at n a (bound i) k ≡ bound j
  abs_above i j k h e = search (rules, the_lemmas)

  abs_own : (k : ℕ) → abstracted_at n a v k ≡ bound k
  abs_own k = abstracted-free n a n a k ∙ own (n == n && is_ty a a) (bound k) v (itself n (is_ty a a) (is_ty_itself a))

  -- ---- what is opened is closed again
  abbrev Closes : Term → Type 0
  Closes t = (k : ℕ) → occurs n a t ≡ false → abstracted_at n a (put v t k) k ≡ t

  closes_low : (i k : ℕ) → i < k → abstracted_at n a (put v (bound i) k) k ≡ bound i
  closes_low i k h = ap (λ t. abstracted_at n a t k) (put_below v i k h) ∙ abs_below i k h

  closes_here : (i k : ℕ) → i ≡ k → abstracted_at n a (put v (bound i) k) k ≡ bound i
  closes_here i k h = ap (λ t. abstracted_at n a t k) (put_v n a i k h) ∙ abs_own k ∙ ap bound (sym h)

  closes_high : (i k : ℕ) → k < i → abstracted_at n a (put v (bound i) k) k ≡ bound i
  closes_high i k h = ap (λ t. abstracted_at n a t k) (put_above v i k h) ∙ abs_above (i - 1) i k (omega arith) (omega arith)

  closes_bound : (i : ℕ) → Closes (bound i)
  closes_bound i k h = grind (arith, closes_low i k, closes_here i k, closes_high i k)

  closes_free : (m : ℕ) (b : Ty) → Closes (roll-Term (Term-F.Free m b))
  closes_free m b k h =
      ap (λ t. abstracted_at n a t k) (put-free v m b k) ∙ abstracted-free n a m b k ∙ other (m == n && is_ty b a) (bound k) (roll-Term (Term-F.Free m b)) (sym (occurs-free n a m b) ∙ h)

  closes_con : (c : Konst) → Closes (roll-Term (Term-F.Con c))
  closes_con c k h = ap (λ t. abstracted_at n a t k) (put-con v c k) ∙ abstracted-con n a c k

  closes_app : (f x : Term) → Closes f → Closes x → Closes (apply f x)
  closes_app f x hf hx k h =
      let parts = neither (occurs n a f) (occurs n a x) (sym (occurs-app n a f x) ∙ h) in
      ap (λ t. abstracted_at n a t k) (put-app v f x k) ∙ abstracted-app n a (put v f k) (put v x k) k ∙ (λ i. apply (hf k parts.0 i) (hx k parts.1 i))

  closes_lam : (b : Ty) (t : Term) → Closes t → Closes (lambda b t)
  closes_lam b t ht k h =
      ap (λ z. abstracted_at n a z k) (put-lam v b t k) ∙ abstracted-lam n a b (put v t (k + 1)) k ∙ ap (lambda b) (ht (k + 1) (sym (occurs-lam n a b t) ∙ h))

  pub abstracted_put : (t : Term) → Closes t
  abstracted_put t = by_cases Closes closes_bound closes_free closes_con closes_app closes_lam t

  -- ---- what a term lacks it lacks where it is lifted
  abbrev Lifted : Term → Type 0
  Lifted t = (by k : ℕ) → occurs n a (lift by t k) ≡ occurs n a t

  lifted_bound : (i : ℕ) → Lifted (bound i)
  lifted_bound i by k = ap (occurs n a) (lift-bound by i k) ∙ occurs-bound n a (if nat_lt i k then i else i + by) ∙ sym (occurs-bound n a i)

  lifted_app : (f x : Term) → Lifted f → Lifted x → Lifted (apply f x)
  lifted_app f x hf hx by k = ap (occurs n a) (lift-app by f x k) ∙ occurs-app n a (lift by f k) (lift by x k) ∙ (λ i. hf by k i || hx by k i) ∙ sym (occurs-app n a f x)

  lifted_lam : (b : Ty) (t : Term) → Lifted t → Lifted (lambda b t)
  lifted_lam b t ht by k = ap (occurs n a) (lift-lam by b t k) ∙ occurs-lam n a b (lift by t (k + 1)) ∙ ht by (k + 1) ∙ sym (occurs-lam n a b t)

  occurs_lift : (t : Term) → Lifted t
  occurs_lift t = by_cases Lifted lifted_bound (λ m b by k. ap (occurs n a) (lift-free by m b k)) (λ c by k. ap (occurs n a) (lift-con by c k)) lifted_app lifted_lam t

  -- ---- and where what is put in lacks it too
  module _ (u : Term) (lacks : occurs n a u ≡ false) where
    abbrev Lacks : Term → Type 0
    Lacks t = (k : ℕ) → occurs n a t ≡ false → occurs n a (put u t k) ≡ false

    lacks_low : (i k : ℕ) → i < k → occurs n a (put u (bound i) k) ≡ false
    lacks_low i k h = ap (occurs n a) (put_below u i k h) ∙ occurs-bound n a i

    lacks_here : (i k : ℕ) → i ≡ k → occurs n a (put u (bound i) k) ≡ false
    lacks_here i k h = ap (occurs n a) (put_here u i k h) ∙ occurs_lift u k 0 ∙ lacks

    lacks_high : (i k : ℕ) → k < i → occurs n a (put u (bound i) k) ≡ false
    lacks_high i k h = ap (occurs n a) (put_above u i k h) ∙ occurs-bound n a (i - 1)

    lacks_bound : (i : ℕ) → Lacks (bound i)
    lacks_bound i k h = grind (arith, lacks_low i k, lacks_here i k, lacks_high i k)

    lacks_app : (f x : Term) → Lacks f → Lacks x → Lacks (apply f x)
    lacks_app f x hf hx k h =
        let parts = neither (occurs n a f) (occurs n a x) (sym (occurs-app n a f x) ∙ h) in
        ap (occurs n a) (put-app u f x k) ∙ occurs-app n a (put u f k) (put u x k) ∙ both_false (occurs n a (put u f k)) (occurs n a (put u x k)) (hf k parts.0) (hx k parts.1)

    lacks_lam : (b : Ty) (t : Term) → Lacks t → Lacks (lambda b t)
    lacks_lam b t ht k h = ap (occurs n a) (put-lam u b t k) ∙ occurs-lam n a b (put u t (k + 1)) ∙ ht (k + 1) (sym (occurs-lam n a b t) ∙ h)

    pub occurs_put : (t : Term) → Lacks t
    occurs_put t = by_cases Lacks lacks_bound (λ m b k h. ap (occurs n a) (put-free u m b k) ∙ h) (λ c k h. ap (occurs n a) (put-con u c k) ∙ occurs-con n a c) lacks_app lacks_lam t
