-- What a formula is made of, and what keeps it one.
use Rattle.std.proofs.Common.{◌≡◌, ℕ, ◌+◌, ◌-◌, Bool, true, false, ◌&&◌, ◌==◌, if◌then◌else◌, nat_lt, IsTrue, ap, subst, refl, sym, ◌∙◌, [], Some, None}
use Rattle.std.specs.Prelude.{Option}
use Rattle.hol_terms.specs.declared.ty.Ty.{Ty}
use Rattle.hol_terms.specs.declared.sig.Sig.{Sig}
use Rattle.hol_terms.specs.declared.term.Term.{Term, roll-Term}
use Rattle.hol_terms.specs.declared.term.Term.TheOpen.{Term-F}
use Rattle.hol_terms.specs.Types.{is_ty, bool_ty}
use Rattle.hol_terms.specs.Typing.{type_of_term}
use Rattle.hol_terms.specs.Substitution.{put, lift, abstracted_at, put_free, one_put, occurs, is_closed}
use Rattle.hol_terms.specs.Formulas.{has_ty, typed_as, aux_free, var_free, is_formula, IsFormula, is_sentence, IsSentence}
use Rattle.hol_terms.proofs.TermCases.{by_cases}
use Rattle.hol_terms.proofs.TyCases.{is_ty_same, is_ty_itself}
use Rattle.hol_terms.proofs.Both.{both_true, and_true}
use Rattle.hol_terms.proofs.Closed.{typed_closed}
use Rattle.hol_terms.proofs.Equations.{lift-bound, lift-free, lift-con, lift-app, lift-lam, put-bound, put-free, put-con, put-app, put-lam, abstracted-bound, abstracted-free, abstracted-con, abstracted-app, abstracted-lam, put_free-bound, put_free-free, put_free-con, put_free-app, put_free-lam, aux_free-bound, aux_free-free, aux_free-app, aux_free-lam, var_free-free, var_free-app, var_free-lam, occurs-bound, occurs-con, occurs-app, occurs-lam}

has_ty_is : (o : Option Ty) (a : Ty) → IsTrue (has_ty o a) → o ≡ Some a
has_ty_is None a h = cc
has_ty_is (Some b) a h = ap Some (is_ty_same b a h)

pub typed_as_is : (sig : Sig) (t : Term) (a : Ty) → IsTrue (typed_as sig t a) → type_of_term sig t ≡ Some a
typed_as_is sig t a h = has_ty_is (type_of_term sig t) a h

pub is_typed_as : (sig : Sig) (t : Term) (a : Ty) → type_of_term sig t ≡ Some a → IsTrue (typed_as sig t a)
is_typed_as sig t a h = subst (λ o. IsTrue (has_ty o a)) (sym h) (is_ty_itself a)

pub formula_typed : (sig : Sig) (t : Term) → IsFormula sig t → type_of_term sig t ≡ Some bool_ty
unfolding is_formula
formula_typed sig t h = typed_as_is sig t bool_ty (both_true (typed_as sig t bool_ty) (aux_free t) h).0

pub formula_aux_free : (sig : Sig) (t : Term) → IsFormula sig t → IsTrue (aux_free t)
unfolding is_formula
formula_aux_free sig t h = (both_true (typed_as sig t bool_ty) (aux_free t) h).1

pub formula_closed : (sig : Sig) (t : Term) → IsFormula sig t → IsTrue (is_closed t)
formula_closed sig t h = typed_closed sig t [] bool_ty (formula_typed sig t h)

pub formula_from : (sig : Sig) (t : Term) → type_of_term sig t ≡ Some bool_ty → IsTrue (aux_free t) → IsFormula sig t
unfolding is_formula
formula_from sig t typed free = and_true (typed_as sig t bool_ty) (aux_free t) (is_typed_as sig t bool_ty typed) free

pub sentence_formula : (sig : Sig) (t : Term) → IsSentence sig t → IsFormula sig t
unfolding is_sentence
sentence_formula sig t h = (both_true (is_formula sig t) (var_free t) h).0

pub sentence_var_free : (sig : Sig) (t : Term) → IsSentence sig t → IsTrue (var_free t)
unfolding is_sentence
sentence_var_free sig t h = (both_true (is_formula sig t) (var_free t) h).1

pub sentence_from : (sig : Sig) (t : Term) → IsFormula sig t → IsTrue (var_free t) → IsSentence sig t
unfolding is_sentence
sentence_from sig t h k = and_true (is_formula sig t) (var_free t) h k

-- ---- no auxiliary constant comes in

module _ (by : ℕ) where
  abbrev Lifted : Term → Type 0
  Lifted t = (k : ℕ) → IsTrue (aux_free t) → IsTrue (aux_free (lift by t k))

  lifted_app : (f x : Term) → Lifted f → Lifted x → Lifted (roll-Term (Term-F.App f x))
  lifted_app f x hf hx k h =
      let both = both_true (aux_free f) (aux_free x) (sym (aux_free-app f x) ∙ h) in
      ap aux_free (lift-app by f x k) ∙ aux_free-app (lift by f k) (lift by x k) ∙ and_true (aux_free (lift by f k)) (aux_free (lift by x k)) (hf k both.0) (hx k both.1)

  lifted_lam : (a : Ty) (t : Term) → Lifted t → Lifted (roll-Term (Term-F.Lam a t))
  lifted_lam a t ht k h = ap aux_free (lift-lam by a t k) ∙ aux_free-lam a (lift by t (k + 1)) ∙ ht (k + 1) (sym (aux_free-lam a t) ∙ h)

  pub aux_free_lifted : (t : Term) → Lifted t
  aux_free_lifted t =
      by_cases Lifted (λ i k h. ap aux_free (lift-bound by i k) ∙ aux_free-bound (if nat_lt i k then i else i + by)) (λ n a k h. ap aux_free (lift-free by n a k) ∙ h)
      (λ c k h. ap aux_free (lift-con by c k) ∙ h) lifted_app lifted_lam t

module _ (u : Term) (free : IsTrue (aux_free u)) where
  abbrev Put : Term → Type 0
  Put t = (k : ℕ) → IsTrue (aux_free t) → IsTrue (aux_free (put u t k))

  put_bound : (i : ℕ) → Put (roll-Term (Term-F.Bound i))
  put_bound i k h = ap aux_free (put-bound u i k) ∙ chosen (nat_lt i k) (i == k)
    where
      chosen : (below here : Bool) → IsTrue (aux_free (if below then roll-Term (Term-F.Bound i) else (if here then lift k u 0 else roll-Term (Term-F.Bound (i - 1)))))
      chosen true here = aux_free-bound i
      chosen false true = aux_free_lifted k u 0 free
      chosen false false = aux_free-bound (i - 1)

  put_app : (f x : Term) → Put f → Put x → Put (roll-Term (Term-F.App f x))
  put_app f x hf hx k h =
      let both = both_true (aux_free f) (aux_free x) (sym (aux_free-app f x) ∙ h) in
      ap aux_free (put-app u f x k) ∙ aux_free-app (put u f k) (put u x k) ∙ and_true (aux_free (put u f k)) (aux_free (put u x k)) (hf k both.0) (hx k both.1)

  put_lam : (a : Ty) (t : Term) → Put t → Put (roll-Term (Term-F.Lam a t))
  put_lam a t ht k h = ap aux_free (put-lam u a t k) ∙ aux_free-lam a (put u t (k + 1)) ∙ ht (k + 1) (sym (aux_free-lam a t) ∙ h)

  pub aux_free_put : (t : Term) → Put t
  aux_free_put t = by_cases Put put_bound (λ n a k h. ap aux_free (put-free u n a k) ∙ h) (λ c k h. ap aux_free (put-con u c k) ∙ h) put_app put_lam t

module _ (n : ℕ) (a : Ty) where
  abbrev Bound : Term → Type 0
  Bound t = (k : ℕ) → IsTrue (aux_free t) → IsTrue (aux_free (abstracted_at n a t k))

  bound_free : (m : ℕ) (b : Ty) → Bound (roll-Term (Term-F.Free m b))
  bound_free m b k h = ap aux_free (abstracted-free n a m b k) ∙ chosen (m == n && is_ty b a)
    where
      chosen : (here : Bool) → IsTrue (aux_free (if here then roll-Term (Term-F.Bound k) else roll-Term (Term-F.Free m b)))
      chosen true = aux_free-bound k
      chosen false = aux_free-free m b

  bound_app : (f x : Term) → Bound f → Bound x → Bound (roll-Term (Term-F.App f x))
  bound_app f x hf hx k h =
      let both = both_true (aux_free f) (aux_free x) (sym (aux_free-app f x) ∙ h) in
      ap aux_free (abstracted-app n a f x k) ∙ aux_free-app (abstracted_at n a f k) (abstracted_at n a x k)
      ∙ and_true (aux_free (abstracted_at n a f k)) (aux_free (abstracted_at n a x k)) (hf k both.0) (hx k both.1)

  bound_lam : (b : Ty) (t : Term) → Bound t → Bound (roll-Term (Term-F.Lam b t))
  bound_lam b t ht k h = ap aux_free (abstracted-lam n a b t k) ∙ aux_free-lam b (abstracted_at n a t (k + 1)) ∙ ht (k + 1) (sym (aux_free-lam b t) ∙ h)

  pub aux_free_abstracted : (t : Term) → Bound t
  aux_free_abstracted t =
      by_cases Bound (λ i k h. ap aux_free (abstracted-bound n a i k) ∙ aux_free-bound (if nat_lt i k then i else i + 1)) bound_free
      (λ c k h. ap aux_free (abstracted-con n a c k) ∙ h) bound_app bound_lam t

module _ (v : ℕ → Ty → Term) (each : (n : ℕ) (a : Ty) → IsTrue (aux_free (v n a))) where
  abbrev Replaced : Term → Type 0
  Replaced t = IsTrue (aux_free t) → IsTrue (aux_free (put_free v t))

  replaced_app : (f x : Term) → Replaced f → Replaced x → Replaced (roll-Term (Term-F.App f x))
  replaced_app f x hf hx h =
      let both = both_true (aux_free f) (aux_free x) (sym (aux_free-app f x) ∙ h) in
      ap aux_free (put_free-app v f x) ∙ aux_free-app (put_free v f) (put_free v x) ∙ and_true (aux_free (put_free v f)) (aux_free (put_free v x)) (hf both.0) (hx both.1)

  replaced_lam : (a : Ty) (t : Term) → Replaced t → Replaced (roll-Term (Term-F.Lam a t))
  replaced_lam a t ht h = ap aux_free (put_free-lam v a t) ∙ aux_free-lam a (put_free v t) ∙ ht (sym (aux_free-lam a t) ∙ h)

  pub aux_free_replaced : (t : Term) → Replaced t
  aux_free_replaced t =
      by_cases Replaced (λ i h. ap aux_free (put_free-bound v i) ∙ h) (λ n a h. ap aux_free (put_free-free v n a) ∙ each n a) (λ c h. ap aux_free (put_free-con v c) ∙ h) replaced_app replaced_lam t

pub aux_free_one_put : (n : ℕ) (a : Ty) (u : Term) → IsTrue (aux_free u) → (m : ℕ) (b : Ty) → IsTrue (aux_free (one_put n a u m b))
aux_free_one_put n a u h m b = chosen (m == n && is_ty b a)
  where
    chosen : (here : Bool) → IsTrue (aux_free (if here then u else roll-Term (Term-F.Free m b)))
    chosen true = h
    chosen false = aux_free-free m b

-- ---- what has no variable stays as it is

module _ (v : ℕ → Ty → Term) where
  abbrev Stays : Term → Type 0
  Stays t = IsTrue (var_free t) → put_free v t ≡ t

  stays_free : (n : ℕ) (a : Ty) → Stays (roll-Term (Term-F.Free n a))
  stays_free n a h = absurd (clash (var_free (roll-Term (Term-F.Free n a))) h (var_free-free n a))
    where
      clash : (b : Bool) → b ≡ true → b ≡ false → ⊥
      clash b h k = cc

  stays_app : (f x : Term) → Stays f → Stays x → Stays (roll-Term (Term-F.App f x))
  stays_app f x hf hx h =
      let both = both_true (var_free f) (var_free x) (sym (var_free-app f x) ∙ h) in
      let left = hf both.0 in
      let right = hx both.1 in
      rw (put_free-app v f x, left, right) refl

  stays_lam : (a : Ty) (t : Term) → Stays t → Stays (roll-Term (Term-F.Lam a t))
  stays_lam a t ht h = let inner = ht (sym (var_free-lam a t) ∙ h) in rw (put_free-lam v a t, inner) refl

  pub var_free_stays : (t : Term) → Stays t
  var_free_stays t = by_cases Stays (λ i h. put_free-bound v i) stays_free (λ c h. put_free-con v c) stays_app stays_lam t

module _ (n : ℕ) (a : Ty) where
  abbrev Absent : Term → Type 0
  Absent t = IsTrue (var_free t) → occurs n a t ≡ false

  absent_free : (m : ℕ) (b : Ty) → Absent (roll-Term (Term-F.Free m b))
  absent_free m b h = absurd (clash (var_free (roll-Term (Term-F.Free m b))) h (var_free-free m b))
    where
      clash : (b : Bool) → b ≡ true → b ≡ false → ⊥
      clash b h k = cc

  absent_app : (f x : Term) → Absent f → Absent x → Absent (roll-Term (Term-F.App f x))
  absent_app f x hf hx h =
      let both = both_true (var_free f) (var_free x) (sym (var_free-app f x) ∙ h) in
      let left = hf both.0 in
      let right = hx both.1 in
      rw (occurs-app n a f x, left, right) refl

  pub var_free_absent : (t : Term) → Absent t
  var_free_absent t = by_cases Absent (λ i h. occurs-bound n a i) absent_free (λ c h. occurs-con n a c) absent_app (λ b t ht h. occurs-lam n a b t ∙ ht (sym (var_free-lam b t) ∙ h)) t
