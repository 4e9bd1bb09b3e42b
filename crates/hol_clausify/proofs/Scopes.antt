-- The terms of a scope, and a value that is put in under a quantifier.
use Rattle.std.proofs.Common.{◌≡◌, ℕ, suc, ◌+◌, ◌-◌, ◌<◌, Bool, true, false, nat_lt, if◌then◌else◌, IsTrue, List, [], ◌∷◌, length, slice_get, get_or, ap, subst, refl, sym, ◌∙◌, arith, Some}
use Rattle.std.specs.Prelude.{unwrap_or}
use Rattle.std.proofs.lemmas.Option.{slice_get-get_or}
use Rattle.std.proofs.lemmas.Bool.Decides.{nat_tests}
use Rattle.hol_terms.specs.declared.ty.Ty.{Ty}
use Rattle.hol_terms.specs.declared.konst.Konst.{Konst}
use Rattle.hol_terms.specs.declared.term.Term.{Term, roll-Term}
use Rattle.hol_terms.specs.declared.term.Term.TheOpen.{Term-F}
use Rattle.hol_terms.specs.declared.term.Term.TheFolds.{fold-roll-Term}
use Rattle.hol_terms.specs.Substitution.{put, closed_under, is_closed}
use Rattle.hol_terms.proofs.TermCases.{by_cases}
use Rattle.hol_terms.proofs.Both.{both_true}
use Rattle.hol_terms.proofs.Closed.{lift_closed}
use Rattle.hol_terms.proofs.Equations.{put-free, put-con, put-app, put-lam, closed-bound, closed-app, closed-lam}
use Rattle.kernel_rules.specs.Connectives.{apply, lambda, constant}
use Rattle.hol_derived.proofs.PutPut.{bound, put_below, put_here}
use Rattle.formula_clauses.specs.Choices.{put_in, put_in_step}
use Rattle.hol_clausify.specs.Laws.{AllClosed}
use Rattle.hol_clausify.proofs.Wider.{less, put_everywhere}

module _ (e : List Term) where
  pub put_in-bound : (i d : ℕ) → put_in e (bound i) d ≡ (if nat_lt i d then bound i else unwrap_or (slice_get e (i - d)) (bound i))
  put_in-bound i d = ap (λ g. g d) (fold-roll-Term (ℕ → Term) (put_in_step e) (Term-F.Bound i))

  pub put_in-free : (n : ℕ) (a : Ty) (d : ℕ) → put_in e (roll-Term (Term-F.Free n a)) d ≡ roll-Term (Term-F.Free n a)
  put_in-free n a d = ap (λ g. g d) (fold-roll-Term (ℕ → Term) (put_in_step e) (Term-F.Free n a))

  pub put_in-con : (k : Konst) (d : ℕ) → put_in e (constant k) d ≡ constant k
  put_in-con k d = ap (λ g. g d) (fold-roll-Term (ℕ → Term) (put_in_step e) (Term-F.Con k))

  pub put_in-app : (f x : Term) (d : ℕ) → put_in e (apply f x) d ≡ apply (put_in e f d) (put_in e x d)
  put_in-app f x d = ap (λ g. g d) (fold-roll-Term (ℕ → Term) (put_in_step e) (Term-F.App f x))

  pub put_in-lam : (a : Ty) (b : Term) (d : ℕ) → put_in e (lambda a b) d ≡ lambda a (put_in e b (d + 1))
  put_in-lam a b d = ap (λ g. g d) (fold-roll-Term (ℕ → Term) (put_in_step e) (Term-F.Lam a b))

  if_below : (i d : ℕ) (s t : Term) → i < d → (if nat_lt i d then s else t) ≡ s
  if_below i d s t h = grind (arith, nat_tests)

  if_not : (i d : ℕ) (s t : Term) → d < i + 1 → (if nat_lt i d then s else t) ≡ t
  if_not i d s t h = grind (arith, nat_tests)

  pub in_below : (i d : ℕ) → i < d → put_in e (bound i) d ≡ bound i
  in_below i d h = put_in-bound i d ∙ if_below i d (bound i) (unwrap_or (slice_get e (i - d)) (bound i)) h

  pub in_above : (i d : ℕ) (u : Term) → d < i + 1 → slice_get e (i - d) ≡ Some u → put_in e (bound i) d ≡ u
  in_above i d u h at = put_in-bound i d ∙ if_not i d (bound i) (unwrap_or (slice_get e (i - d)) (bound i)) h ∙ ap (λ o. unwrap_or o (bound i)) at

module _ (e : List Term) (v : Term) (closed : AllClosed e) (value : IsTrue (is_closed v)) where
  abbrev Under : Term → Type 0
  Under t = (k : ℕ) → IsTrue (closed_under t (length e + 1 + k)) → put v (put_in e t (k + 1)) k ≡ put_in (v ∷ e) t k

  under_low : (i k : ℕ) → i < k → put v (put_in e (bound i) (k + 1)) k ≡ put_in (v ∷ e) (bound i) k
  under_low i k h =
      ap (λ t. put v t k) (in_below e i (k + 1) (omega arith)) ∙ put_below v i k h ∙ sym (in_below (v ∷ e) i k h)

  under_here : (i k : ℕ) → i ≡ k → put v (put_in e (bound i) (k + 1)) k ≡ put_in (v ∷ e) (bound i) k
  under_here i k h =
      let first : i - k ≡ 0 = omega arith in
      ap (λ t. put v t k) (in_below e i (k + 1) (omega arith)) ∙ put_here v i k h ∙ lift_closed k v 0 value
      ∙ sym (in_above (v ∷ e) i k v (omega arith) (ap (slice_get (v ∷ e)) first))

  under_high : (i k : ℕ) → k < i → i < length e + 1 + k → put v (put_in e (bound i) (k + 1)) k ≡ put_in (v ∷ e) (bound i) k
  under_high i k h g =
      let u = get_or e (i - (k + 1)) v in
      let at : slice_get e (i - (k + 1)) ≡ Some u = slice_get-get_or e (i - (k + 1)) v (omega arith) in
      let behind : i - k ≡ suc (i - (k + 1)) = omega arith in
      ap (λ t. put v t k) (in_above e i (k + 1) u (omega arith) at) ∙ put_everywhere v u k (closed (i - (k + 1)) u at)
      ∙ sym (in_above (v ∷ e) i k u (omega arith) (ap (slice_get (v ∷ e)) behind ∙ at))

  under_bound : (i : ℕ) → Under (bound i)
  under_bound i k h =
      let below : i < length e + 1 + k = less i (length e + 1 + k) (subst IsTrue (closed-bound i (length e + 1 + k)) h) in
      grind (arith, under_low i k, under_here i k, under_high i k, below)

  under_app : (f x : Term) → Under f → Under x → Under (apply f x)
  under_app f x hf hx k h =
      let d = length e + 1 + k in
      let parts = both_true (closed_under f d) (closed_under x d) (subst IsTrue (closed-app f x d) h) in
      ap (λ t. put v t k) (put_in-app e f x (k + 1)) ∙ put-app v (put_in e f (k + 1)) (put_in e x (k + 1)) k ∙ (λ i. apply (hf k parts.0 i) (hx k parts.1 i))
      ∙ sym (put_in-app (v ∷ e) f x k)

  under_lam : (a : Ty) (b : Term) → Under b → Under (lambda a b)
  under_lam a b hb k h =
      let d = length e + 1 + k in
      let deeper : d + 1 ≡ length e + 1 + (k + 1) = omega arith in
      let body : IsTrue (closed_under b (length e + 1 + (k + 1))) = subst IsTrue (closed-lam a b d ∙ ap (closed_under b) deeper) h in
      ap (λ t. put v t k) (put_in-lam e a b (k + 1)) ∙ put-lam v a (put_in e b (k + 1 + 1)) k ∙ ap (lambda a) (hb (k + 1) body)
      ∙ sym (put_in-lam (v ∷ e) a b k)

  pub under_scope : (t : Term) → Under t
  under_scope t =
      by_cases Under under_bound (λ n a k h. ap (λ z. put v z k) (put_in-free e n a (k + 1)) ∙ put-free v n a k ∙ sym (put_in-free (v ∷ e) n a k))
      (λ c k h. ap (λ z. put v z k) (put_in-con e c (k + 1)) ∙ put-con v c k ∙ sym (put_in-con (v ∷ e) c k)) under_app under_lam t

-- ---- no terms
none_put : (i d : ℕ) (c : Bool) → (if c then bound i else unwrap_or (slice_get [] (i - d)) (bound i)) ≡ bound i
none_put i d true = refl
none_put i d false = refl

abbrev Stays : Term → Type 0
Stays t = (d : ℕ) → put_in [] t d ≡ t

pub put_in_none : (t : Term) → Stays t
put_in_none =
    by_cases Stays (λ i d. put_in-bound [] i d ∙ none_put i d (nat_lt i d)) (λ n a d. put_in-free [] n a d) (λ k d. put_in-con [] k d)
    (λ f x hf hx d. put_in-app [] f x d ∙ (λ i. apply (hf d i) (hx d i))) (λ a b hb d. put_in-lam [] a b d ∙ ap (lambda a) (hb (d + 1)))
