-- Equations that say nothing, opened and closed again.
use Rattle.std.proofs.Common.{◌≡◌, ℕ, ◌+◌, ◌-◌, ◌<◌, Bool, false, IsTrue, List, [], ◌∷◌, length, Some, ap, refl, sym, ◌∙◌, subst, arith}
use Rattle.hol_terms.specs.declared.ty.Ty.{Ty, out-Ty}
use Rattle.hol_terms.specs.declared.konst.Konst.{Konst}
use Rattle.hol_terms.specs.declared.konst.Konst.TheVariants as konst
use Rattle.hol_terms.specs.declared.term.Term as term
use Rattle.hol_terms.specs.declared.term.Term.{Term, roll-Term}
use Rattle.hol_terms.specs.declared.term.Term.TheOpen.{Term-F}
use Rattle.hol_terms.specs.declared.term.Term.TheFolds.{fold-roll-Term}
use Rattle.hol_terms.specs.declared.term.Term.TheViews.{out-roll-Term}
use Rattle.hol_terms.specs.declared.ty.Ty.TheOpen.{Ty-F}
use Rattle.hol_terms.specs.declared.ty.Ty.TheViews.{out-roll-Ty}
use Rattle.hol_terms.specs.declared.sig.Sig.{Sig}
use Rattle.hol_terms.specs.Types.{function_ty, ty_fits}
use Rattle.hol_terms.specs.Typing.{type_in, type_of_term}
use Rattle.hol_terms.specs.Substitution.{put, abstracted_at, occurs}
use Rattle.hol_terms.proofs.TermCases.{by_cases}
use Rattle.hol_terms.proofs.Substitutes.{type_put}
use Rattle.hol_terms.proofs.TypedParts.{under_parts, checked_so}
use Rattle.hol_terms.proofs.Equations.{abstracted-con, abstracted-app, abstracted-lam, put-free, put-con, put-app, put-lam, occurs-lam, type-free, type-lam}
use Rattle.kernel_rules.specs.Connectives.{apply, lambda, lambda_over, constant, equal, all}
use Rattle.kernel_rules.proofs.GivenTerms.{given_typed}
use Rattle.hol_kernel.specs.Conditions.{own_ty, IsGiven}
use Rattle.hol_derived.proofs.Fresh.{abstracted_put}
use Rattle.hol_derived.proofs.PutPut.{bound, put_below, put_above, put_here, put_v}
use Rattle.hol_derived.proofs.Expansions.{lambda_is, own_is}
use Rattle.hol_derived.proofs.Downwards.{binder_fits, opened_given}
use Rattle.lambda_lift.specs.Equations.{run, run_step, behind, body_at, result_ty, result_at, for_all}
use Rattle.hol_clausify.specs.inner.Identities.{identity}

-- ---- the lambdas that a term begins with
pub run_lam : (a : Ty) (b : Term) → run (lambda a b) ≡ a ∷ run b
run_lam a b = fold-roll-Term (List Ty) run_step (Term-F.Lam a b)

pub run_bound : (i : ℕ) → run (bound i) ≡ []
run_bound i = fold-roll-Term (List Ty) run_step (Term-F.Bound i)

pub run_free : (n : ℕ) (a : Ty) → run (roll-Term (Term-F.Free n a)) ≡ []
run_free n a = fold-roll-Term (List Ty) run_step (Term-F.Free n a)

pub run_con : (k : Konst) → run (constant k) ≡ []
run_con k = fold-roll-Term (List Ty) run_step (Term-F.Con k)

pub run_app : (f x : Term) → run (apply f x) ≡ []
run_app f x = fold-roll-Term (List Ty) run_step (Term-F.App f x)

-- ---- identities
pub identity_lam : (c a : Ty) (b : Term) → identity c (lambda a b) ≡ all a (lambda a (identity (result_at c (out-Ty c)) b))
identity_lam c a b =
    ap (λ types. for_all types (equal (result_ty types c) (behind types (lambda a b)) (behind types (lambda a b)))) (run_lam a b)
    ∙ ap (λ u. all a (lambda a (for_all (run b) (equal (result_ty (run b) (result_at c (out-Ty c))) (behind (run b) u) (behind (run b) u))))) (ap (body_at (lambda a b)) (out-roll-Term (Term-F.Lam a b)))

pub identity_none : (c : Ty) (t : Term) → run t ≡ [] → identity c t ≡ equal c t t
identity_none c t h = ap (λ types. for_all types (equal (result_ty types c) (behind types t) (behind types t))) h

module _ (n : ℕ) (a : Ty) where
  abbrev v : Term
  v = roll-Term (Term-F.Free n a)

  abs_equal : (c : Ty) (s t : Term) (k : ℕ) → abstracted_at n a (equal c s t) k ≡ equal c (abstracted_at n a s k) (abstracted_at n a t k)
  abs_equal c s t k =
      abstracted-app n a (apply (constant (konst.Eq c)) s) t k
      ∙ ap (λ f. apply f (abstracted_at n a t k)) (abstracted-app n a (constant (konst.Eq c)) s k ∙ ap (λ f. apply f (abstracted_at n a s k)) (abstracted-con n a (konst.Eq c) k))

  abs_all : (c : Ty) (t : Term) (k : ℕ) → abstracted_at n a (all c (lambda c t)) k ≡ all c (lambda c (abstracted_at n a t (k + 1)))
  abs_all c t k =
      abstracted-app n a (constant (konst.All c)) (lambda c t) k
      ∙ (λ i. apply (abstracted-con n a (konst.All c) k i) (abstracted-lam n a c t k i))

  -- a body that is opened with a variable that it lacks: the identity of what is opened, closed again, is the body's
  abbrev Reopens : Term → Type 0
  Reopens t = (c : Ty) (k : ℕ) → occurs n a t ≡ false → abstracted_at n a (identity c (put v t k)) k ≡ identity c t

  plain : (t : Term) → run t ≡ [] → ((k : ℕ) → run (put v t k) ≡ []) → Reopens t
  plain t h g c k lacks =
      ap (λ s. abstracted_at n a s k) (identity_none c (put v t k) (g k)) ∙ abs_equal c (put v t k) (put v t k) k
      ∙ (λ i. equal c (abstracted_put n a t k lacks i) (abstracted_put n a t k lacks i)) ∙ sym (identity_none c t h)

  reopens_lam : (d : Ty) (b : Term) → Reopens b → Reopens (lambda d b)
  reopens_lam d b hb c k lacks =
      let r = result_at c (out-Ty c) in
      ap (λ s. abstracted_at n a s k) (ap (identity c) (put-lam v d b k) ∙ identity_lam c d (put v b (k + 1)))
      ∙ abs_all d (identity r (put v b (k + 1))) k
      ∙ ap (λ s. all d (lambda d s)) (hb r (k + 1) (sym (occurs-lam n a d b) ∙ lacks)) ∙ sym (identity_lam c d b)

  run_put_bound : (i k : ℕ) → run (put v (bound i) k) ≡ []
  run_put_bound i k = grind (arith, low, here, high)
    where
      low : i < k → run (put v (bound i) k) ≡ []
      low h = ap run (put_below v i k h) ∙ run_bound i

      here : i ≡ k → run (put v (bound i) k) ≡ []
      here h = ap run (put_v n a i k h) ∙ run_free n a

      high : k < i → run (put v (bound i) k) ≡ []
      high h = ap run (put_above v i k h) ∙ run_bound (i - 1)

  pub run_put : (t : Term) (k : ℕ) → run (put v t k) ≡ run t
  run_put =
      by_cases (λ t. (k : ℕ) → run (put v t k) ≡ run t) (λ i k. run_put_bound i k ∙ sym (run_bound i)) (λ m b k. ap run (put-free v m b k))
      (λ c k. ap run (put-con v c k)) (λ f x hf hx k. ap run (put-app v f x k) ∙ run_app (put v f k) (put v x k) ∙ sym (run_app f x))
      (λ d b hb k. ap run (put-lam v d b k) ∙ run_lam d (put v b (k + 1)) ∙ ap (λ types. d ∷ types) (hb (k + 1)) ∙ sym (run_lam d b))

  pub reopens : (t : Term) → Reopens t
  reopens =
      by_cases Reopens (λ i. plain (bound i) (run_bound i) (λ k. run_put (bound i) k ∙ run_bound i))
      (λ m b. plain (roll-Term (Term-F.Free m b)) (run_free m b) (λ k. run_put (roll-Term (Term-F.Free m b)) k ∙ run_free m b))
      (λ c. plain (constant c) (run_con c) (λ k. run_put (constant c) k ∙ run_con c))
      (λ f x hf hx. plain (apply f x) (run_app f x) (λ k. run_put (apply f x) k ∙ run_app f x)) reopens_lam

-- ---- terms that begin with no lambda
pub run_other : (t : Term) → ((a : Ty) (b : Term) → t ≡ term.Lam a b → ⊥) → run t ≡ []
run_other =
    by_cases (λ t. ((a : Ty) (b : Term) → t ≡ term.Lam a b → ⊥) → run t ≡ []) (λ i h. run_bound i) (λ n a h. run_free n a) (λ c h. run_con c) (λ f x hf hx h. run_app f x)
    (λ a b hb h. absurd (h a b (sym (lambda_is a b))))

-- ---- the identity of a lambda, from that of its opened body
tails : (a b : Ty) (x y : List Ty) → a ∷ x ≡ b ∷ y → x ≡ y
tails a b x y h = cc

result_is : (a d : Ty) → result_at (function_ty a d) (out-Ty (function_ty a d)) ≡ d
result_is a d = ap (result_at (function_ty a d)) (out-roll-Ty (Ty-F.Arrow a d))

module _ (sig : Sig) (n : ℕ) (a fa : Ty) (t form b inner : Term) (is : t ≡ lambda a b) (begins : form ≡ lambda fa inner) where
  abbrev o : Term
  o = put (roll-Term (Term-F.Free n a)) b 0

  form_run : run form ≡ fa ∷ run inner
  form_run = ap run begins ∙ run_lam fa inner

  pub inner_run : run form ≡ run t → run inner ≡ run o
  inner_run same = tails fa a (run inner) (run b) (sym form_run ∙ same ∙ ap run is ∙ run_lam a b) ∙ sym (run_put n a b 0)

  pub inner_less : length (run inner) < length (run form)
  inner_less = subst (λ l. length (run inner) < length l) (sym form_run) (omega arith)

  module _ (given : IsGiven sig t (own_ty sig t)) where
    given_lam : IsGiven sig (lambda a b) (own_ty sig (lambda a b))
    given_lam = subst (λ u. IsGiven sig u (own_ty sig u)) is given

    pub fits : IsTrue (ty_fits sig.types a)
    fits = binder_fits sig n a b given_lam

    pub given_opened : IsGiven sig o (own_ty sig o)
    given_opened = opened_given sig n a b given_lam

    parts : (c : Ty) × ((type_in sig b (a ∷ []) ≡ Some c) × ((own_ty sig (lambda a b) ≡ function_ty a c) × IsTrue (ty_fits sig.types a)))
    parts = under_parts sig.types a (type_in sig b (a ∷ [])) (own_ty sig (lambda a b)) (sym (type-lam sig a b []) ∙ given_typed sig (lambda a b) (own_ty sig (lambda a b)) given_lam)

    opened_typed : type_of_term sig o ≡ Some parts.0
    opened_typed = type_put sig (roll-Term (Term-F.Free n a)) a (type-free sig n a [] ∙ checked_so sig.types a a fits) b [] [] ∙ parts.1.0

    result_own : result_at (own_ty sig (lambda a b)) (out-Ty (own_ty sig (lambda a b))) ≡ own_ty sig o
    result_own = ap (λ c. result_at c (out-Ty c)) parts.1.1.0 ∙ result_is a parts.0 ∙ sym (own_is sig o parts.0 opened_typed)

    pub closes : occurs n a b ≡ false → all a (lambda_over n a (identity (own_ty sig o) o)) ≡ identity (own_ty sig t) t
    closes lacks =
        ap (λ s. all a (lambda a s)) (reopens n a b (own_ty sig o) 0 lacks) ∙ ap (λ c. all a (lambda a (identity c b))) (sym result_own)
        ∙ sym (identity_lam (own_ty sig (lambda a b)) a b) ∙ ap (λ u. identity (own_ty sig u) u) (sym is)
