-- Free variables: where others are bound, and where terms are put in or expanded.
use Rattle.std.proofs.Common.{◌≡◌, ℕ, ◌+◌, ◌-◌, Bool, true, false, ◌&&◌, ◌||◌, nat_lt, if◌then◌else◌, IsTrue, List, [], ◌∷◌, slice_get, ap, subst, refl, sym, ◌∙◌, Some, None}
use Rattle.std.specs.Prelude.{Option, unwrap_or}
use Rattle.hol_terms.specs.declared.ty.Ty.{Ty}
use Rattle.hol_terms.specs.declared.konst.Konst.{Konst}
use Rattle.hol_terms.specs.declared.term.Term.{Term}
use Rattle.hol_terms.specs.declared.term.Term.TheOpen.{Term-F}
use Rattle.hol_terms.specs.declared.term.Term.TheFolds.{fold-roll-Term}
use Rattle.hol_terms.specs.Substitution.{abstracted_at, abstracted}
use Rattle.hol_terms.specs.Formulas.{var_free}
use Rattle.hol_terms.proofs.TermCases.{by_cases}
use Rattle.hol_terms.proofs.Both.{both_true, and_true}
use Rattle.hol_terms.proofs.Equations.{abstracted-bound, abstracted-free, abstracted-con, abstracted-app, abstracted-lam, var_free-bound, var_free-free, var_free-con, var_free-app, var_free-lam}
use Rattle.kernel_rules.specs.Connectives.{apply, lambda, constant}
use Rattle.lambda_lift.specs.Standing.{Each}
use Rattle.hol_derived.proofs.PutPut.{bound}
use Rattle.formula_clauses.specs.Choices.{Variable, put_in, closed_over}
use Rattle.hol_clausify.specs.Variables.{free_step, each_free, is_variable, is_listed}
use Rattle.hol_clausify.proofs.Opening.{free}
use Rattle.hol_clausify.proofs.Scopes.{put_in-bound, put_in-free, put_in-con, put_in-app, put_in-lam}

-- ---- one equation for each constructor
module _ (p : ℕ → Ty → Bool) where
  pub free-bound : (i : ℕ) → each_free p (bound i) ≡ true
  free-bound i = fold-roll-Term Bool (free_step p) (Term-F.Bound i)

  pub free-free : (n : ℕ) (a : Ty) → each_free p (free n a) ≡ p n a
  free-free n a = fold-roll-Term Bool (free_step p) (Term-F.Free n a)

  pub free-con : (k : Konst) → each_free p (constant k) ≡ true
  free-con k = fold-roll-Term Bool (free_step p) (Term-F.Con k)

  pub free-app : (f x : Term) → each_free p (apply f x) ≡ (each_free p f && each_free p x)
  free-app f x = fold-roll-Term Bool (free_step p) (Term-F.App f x)

  pub free-lam : (a : Ty) (b : Term) → each_free p (lambda a b) ≡ each_free p b
  free-lam a b = fold-roll-Term Bool (free_step p) (Term-F.Lam a b)

  pub app_free : (f x : Term) → IsTrue (each_free p (apply f x)) → IsTrue (each_free p f) × IsTrue (each_free p x)
  app_free f x h = both_true (each_free p f) (each_free p x) (subst IsTrue (free-app f x) h)

  pub free_app : (f x : Term) → IsTrue (each_free p f) → IsTrue (each_free p x) → IsTrue (each_free p (apply f x))
  free_app f x h k = free-app f x ∙ and_true (each_free p f) (each_free p x) h k

-- ---- another test
module _ (p q : ℕ → Ty → Bool) (weaker : (n : ℕ) (a : Ty) → IsTrue (p n a) → IsTrue (q n a)) where
  abbrev Passes : Term → Type 0
  Passes t = IsTrue (each_free p t) → IsTrue (each_free q t)

  pub free_weaker : (t : Term) → Passes t
  free_weaker =
      by_cases Passes (λ i h. free-bound q i) (λ n a h. free-free q n a ∙ weaker n a (subst IsTrue (free-free p n a) h)) (λ k h. free-con q k)
      (λ f x hf hx h. let both = app_free p f x h in free_app q f x (hf both.0) (hx both.1))
      (λ a b hb h. free-lam q a b ∙ hb (subst IsTrue (free-lam p a b) h))

-- a term without free variables passes each test
module _ (p : ℕ → Ty → Bool) where
  abbrev Without : Term → Type 0
  Without t = IsTrue (var_free t) → IsTrue (each_free p t)

  without_free : (n : ℕ) (a : Ty) → Without (free n a)
  without_free n a h = let none : false ≡ true = sym (var_free-free n a) ∙ h in cc

  pub none_free : (t : Term) → Without t
  none_free =
      by_cases Without (λ i h. free-bound p i) without_free (λ k h. free-con p k)
      (λ f x hf hx h. let both = both_true (var_free f) (var_free x) (subst IsTrue (var_free-app f x) h) in free_app p f x (hf both.0) (hx both.1))
      (λ a b hb h. free-lam p a b ∙ hb (subst IsTrue (var_free-lam a b) h))

-- ---- a variable that is bound
module _ (p : ℕ → Ty → Bool) (n : ℕ) (a : Ty) where
  abbrev or_own : ℕ → Ty → Bool
  or_own m b = is_variable n a m b || p m b

  abbrev Left : Term → Type 0
  Left t = (k : ℕ) → IsTrue (each_free or_own t) → IsTrue (each_free p (abstracted_at n a t k))

  left_either : (m : ℕ) (b : Ty) (k : ℕ) (c : Bool) → IsTrue (c || p m b) → IsTrue (each_free p (if c then bound k else free m b))
  left_either m b k true h = free-bound p k
  left_either m b k false h = free-free p m b ∙ h

  left_free : (m : ℕ) (b : Ty) → Left (free m b)
  left_free m b k h = ap (each_free p) (abstracted-free n a m b k) ∙ left_either m b k (is_variable n a m b) (subst IsTrue (free-free or_own m b) h)

  left_bound : (i : ℕ) → Left (bound i)
  left_bound i k h = ap (each_free p) (abstracted-bound n a i k) ∙ free-bound p (if nat_lt i k then i else i + 1)

  left_app : (f x : Term) → Left f → Left x → Left (apply f x)
  left_app f x hf hx k h =
      let both = app_free or_own f x h in
      ap (each_free p) (abstracted-app n a f x k) ∙ free_app p (abstracted_at n a f k) (abstracted_at n a x k) (hf k both.0) (hx k both.1)

  left_lam : (b : Ty) (t : Term) → Left t → Left (lambda b t)
  left_lam b t ht k h =
      ap (each_free p) (abstracted-lam n a b t k) ∙ free-lam p b (abstracted_at n a t (k + 1)) ∙ ht (k + 1) (subst IsTrue (free-lam or_own b t) h)

  pub free_abstracted : (t : Term) → Left t
  free_abstracted t = by_cases Left left_bound left_free (λ c k h. ap (each_free p) (abstracted-con n a c k) ∙ free-con p c) left_app left_lam t

-- ---- a closed term over variables has no others
abbrev none : ℕ → Ty → Bool
none m b = false

or_true : (a b : Bool) → IsTrue b → IsTrue (a || b)
or_true true b h = refl
or_true false b h = h

swap : (a b c : Bool) → IsTrue ((a || b) || c) → IsTrue (b || (a || c))
swap true true c h = refl
swap true false c h = refl
swap false true c h = refl
swap false false c h = h

closed_free : (p : ℕ → Ty → Bool) (vs : List Variable) (t : Term) → IsTrue (each_free (λ m b. is_listed vs m b || p m b) t) → IsTrue (each_free p (closed_over vs t))
closed_free p [] t h = h
closed_free p (v ∷ vs) t h =
    let own : ℕ → Ty → Bool = λ m b. is_variable v.0 v.1 m b || p m b in
    let inner = closed_over vs t in
    free-lam p v.1 (abstracted v.0 v.1 inner)
    ∙ free_abstracted p v.0 v.1 inner 0
    (closed_free own vs t
    (free_weaker (λ m b. is_listed (v ∷ vs) m b || p m b) (λ m b. is_listed vs m b || own m b) (λ m b g. swap (is_variable v.0 v.1 m b) (is_listed vs m b) (p m b) g) t h))

abbrev Bare : Term → Type 0
Bare t = IsTrue (each_free none t) → IsTrue (var_free t)

without_var : (t : Term) → Bare t
without_var =
    by_cases Bare (λ i h. var_free-bound i) (λ n a h. var_free-free n a ∙ sym (free-free none n a) ∙ h) (λ k h. var_free-con k)
    (λ f x hf hx h. let both = app_free none f x h in var_free-app f x ∙ and_true (var_free f) (var_free x) (hf both.0) (hx both.1))
    (λ a b hb h. var_free-lam a b ∙ hb (subst IsTrue (free-lam none a b) h))

or_none : (a : Bool) → IsTrue a → IsTrue (a || false)
or_none true h = refl
or_none false h = h

-- a closed term over all variables that occur has none
pub closed_over_var_free : (vs : List Variable) (t : Term) → IsTrue (each_free (is_listed vs) t) → IsTrue (var_free (closed_over vs t))
closed_over_var_free vs t h =
    without_var (closed_over vs t) (closed_free none vs t (free_weaker (is_listed vs) (λ m b. is_listed vs m b || none m b) (λ m b g. or_none (is_listed vs m b) g) t h))

-- ---- terms put in
module _ (p : ℕ → Ty → Bool) (e : List Term) (all : Each (λ t. IsTrue (each_free p t)) e) where
  abbrev In : Term → Type 0
  In t = (d : ℕ) → IsTrue (each_free p t) → IsTrue (each_free p (put_in e t d))

  got_free : (i j : ℕ) (o : Option Term) → slice_get e j ≡ o → IsTrue (each_free p (unwrap_or o (bound i)))
  got_free i j None h = free-bound p i
  got_free i j (Some u) h = all j u h

  in_either : (i d : ℕ) (c : Bool) → IsTrue (each_free p (if c then bound i else unwrap_or (slice_get e (i - d)) (bound i)))
  in_either i d true = free-bound p i
  in_either i d false = got_free i (i - d) (slice_get e (i - d)) refl

  pub free_put_in : (t : Term) → In t
  free_put_in =
      by_cases In (λ i d h. ap (each_free p) (put_in-bound e i d) ∙ in_either i d (nat_lt i d)) (λ n a d h. ap (each_free p) (put_in-free e n a d) ∙ h)
      (λ k d h. ap (each_free p) (put_in-con e k d) ∙ h)
      (λ f x hf hx d h. let both = app_free p f x h in ap (each_free p) (put_in-app e f x d) ∙ free_app p (put_in e f d) (put_in e x d) (hf d both.0) (hx d both.1))
      (λ a b hb d h. ap (each_free p) (put_in-lam e a b d) ∙ free-lam p a (put_in e b (d + 1)) ∙ hb (d + 1) (subst IsTrue (free-lam p a b) h))
