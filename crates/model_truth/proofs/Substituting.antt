-- What substitution, abstraction and replacement mean for values.
use Rattle.std.proofs.Common.{◌≡◌, ℕ, ◌+◌, ◌-◌, ◌<◌, Bool, true, false, ◌&&◌, ◌||◌, ◌==◌, if◌then◌else◌, nat_lt, IsTrue, List, [], ◌∷◌, ◌++◌, length, slice_get, refl, sym, ◌∙◌, ap, subst, arith, rules, Some}
use Rattle.std.proofs.lemmas.Bool.{eq-eqb, eqb-true}
use Rattle.hol_terms.specs.declared.ty.Ty.{Ty}
use Rattle.hol_terms.specs.declared.konst.Konst.{Konst}
use Rattle.hol_terms.specs.declared.sig.Sig.{Sig}
use Rattle.hol_terms.specs.declared.term.Term.{Term, roll-Term}
use Rattle.hol_terms.specs.declared.term.Term.TheOpen.{Term-F}
use Rattle.hol_terms.specs.declared.term.Term.TheFolds.{the_lemmas}
use Rattle.hol_terms.specs.Types.{is_ty, ty_fits}
use Rattle.hol_terms.specs.Typing.{type_in}
use Rattle.hol_terms.specs.Substitution.{closed_under, lift, put, abstracted_at, put_free, one_put, occurs}
use Rattle.hol_terms.specs.Formulas.{var_free}
use Rattle.hol_terms.proofs.TermCases.{by_cases}
use Rattle.hol_terms.proofs.Both.{both_true, and_true}
use Rattle.hol_terms.proofs.TyCases.{is_ty_itself, is_ty_same}
use Rattle.hol_terms.proofs.Closed.{lift_closed, typed_closed}
use Rattle.hol_terms.proofs.Preserves.{slice_get_front, type_closed}
use Rattle.hol_terms.proofs.Substitutes.{get_middle, get_behind, type_put}
use Rattle.hol_terms.proofs.Abstracts.{type_abstracted}
use Rattle.hol_terms.proofs.Replaces.{type_replaced}
use Rattle.hol_terms.proofs.Equations.{closed-bound, closed-app, closed-lam, put-free, put-con, put-app, put-lam, abstracted-bound, abstracted-free, abstracted-con, abstracted-app, abstracted-lam, put_free-bound, put_free-free, put_free-con, put_free-app, put_free-lam, occurs-free, occurs-app, occurs-lam, var_free-free, var_free-app, var_free-lam}
use Rattle.model_truth.specs.declared.model.Model.{Model}
use Rattle.model_truth.specs.Sizes.{or_else}
use Rattle.model_truth.specs.Values.{Valuation, value_in, value_of}
use Rattle.model_truth.specs.Truth.{updated}
use Rattle.model_truth.proofs.Equations.{value-bound, value-free, value-con, same_app, same_lam}

front_at : {X : Type 0} (c d : List X) (i k : ℕ) → length c ≡ k → IsTrue (nat_lt i k) → slice_get (c ++ d) i ≡ slice_get c i
front_at c d i k e h = slice_get_front c d i (subst (λ z. IsTrue (nat_lt i z)) (sym e) h)

-- ---- a term that is closed under some binders has one value whatever stands behind them
module _ (sig : Sig) (m : Model) (v : Valuation) where
  abbrev Same : Term → Type 0
  Same t = (c d : List Ty) (cv dv : List ℕ) → length cv ≡ length c → IsTrue (closed_under t (length c)) → value_in sig m v t (c ++ d) (cv ++ dv) ≡ value_in sig m v t c cv

  same_bound : (i : ℕ) → Same (roll-Term (Term-F.Bound i))
  same_bound i c d cv dv e h =
      value-bound sig m v i (c ++ d) (cv ++ dv) ∙ ap (or_else 0) (front_at cv dv i (length c) e (subst IsTrue (closed-bound i (length c)) h)) ∙ sym (value-bound sig m v i c cv)

  same_free : (n : ℕ) (a : Ty) → Same (roll-Term (Term-F.Free n a))
  same_free n a c d cv dv e h = value-free sig m v n a (c ++ d) (cv ++ dv) ∙ sym (value-free sig m v n a c cv)

  same_con : (k : Konst) → Same (roll-Term (Term-F.Con k))
  same_con k c d cv dv e h = value-con sig m v k (c ++ d) (cv ++ dv) ∙ sym (value-con sig m v k c cv)

  same_of_app : (f x : Term) → Same f → Same x → Same (roll-Term (Term-F.App f x))
  same_of_app f x hf hx c d cv dv e h =
      let both = both_true (closed_under f (length c)) (closed_under x (length c)) (subst IsTrue (closed-app f x (length c)) h) in
      same_app sig m v v (c ++ d) c (cv ++ dv) cv f x f x (type_closed sig (roll-Term (Term-F.App f x)) c d h) (hf c d cv dv e both.0) (hx c d cv dv e both.1)

  same_of_lam : (a : Ty) (t : Term) → Same t → Same (roll-Term (Term-F.Lam a t))
  same_of_lam a t ht c d cv dv e h =
      let longer : length (a ∷ c) ≡ length c + 1 = omega arith in
      let inner = subst (λ n. IsTrue (closed_under t n)) (sym longer) (subst IsTrue (closed-lam a t (length c)) h) in
      same_lam sig m v v (c ++ d) c (cv ++ dv) cv a t t (type_closed sig t (a ∷ c) d inner) (λ x. ht (a ∷ c) d (x ∷ cv) dv (longer_too x) inner)
    where
      longer_too : (x : ℕ) → length (x ∷ cv) ≡ length (a ∷ c)
      longer_too x = omega arith

  pub value_closed : (t : Term) → Same t
  value_closed t = by_cases Same same_bound same_free same_con same_of_app same_of_lam t

  -- of a term that has a type standing alone
  pub own_value : (t : Term) (a : Ty) (c : List Ty) (cv : List ℕ) → type_in sig t [] ≡ Some a → value_in sig m v t c cv ≡ value_of sig m v t
  own_value t a c cv h = value_closed t [] c [] cv refl (typed_closed sig t [] a h)

-- ---- `t[u]`: the bound variable has the value of `u`
module _ (sig : Sig) (m : Model) (v : Valuation) (u : Term) (s : Ty) (typed : type_in sig u [] ≡ Some s) where
  abbrev Put : Term → Type 0
  Put t = (c d : List Ty) (cv dv : List ℕ) (k : ℕ) → length c ≡ k → length cv ≡ k →
      value_in sig m v (put u t k) (c ++ d) (cv ++ dv) ≡ value_in sig m v t (c ++ s ∷ d) (cv ++ value_of sig m v u ∷ dv)

  put_below : (i k : ℕ) → i < k → put u (roll-Term (Term-F.Bound i)) k ≡ roll-Term (Term-F.Bound i)
  put_below i k h = search (rules, the_lemmas)

  put_here : (i k : ℕ) → i ≡ k → put u (roll-Term (Term-F.Bound i)) k ≡ lift k u 0
  put_here i k h = search (rules, the_lemmas)

  put_above : (i k : ℕ) → k < i → put u (roll-Term (Term-F.Bound i)) k ≡ roll-Term (Term-F.Bound (i - 1))
  put_above i k h = search (rules, the_lemmas)

  type_put_at : (t : Term) (c d : List Ty) (k : ℕ) → length c ≡ k → type_in sig (put u t k) (c ++ d) ≡ type_in sig t (c ++ s ∷ d)
  type_put_at t c d k e = subst (λ n. type_in sig (put u t n) (c ++ d) ≡ type_in sig t (c ++ s ∷ d)) e (type_put sig u s typed t c d)

  middle : (c d : List ℕ) (x i k : ℕ) → length c ≡ k → i ≡ k → slice_get (c ++ x ∷ d) i ≡ Some x
  middle c d x i k e h = ap (slice_get (c ++ x ∷ d)) (h ∙ sym e) ∙ get_middle c d x

  below : (i : ℕ) (c d : List Ty) (cv dv : List ℕ) (k : ℕ) → length cv ≡ k → i < k →
      value_in sig m v (put u (roll-Term (Term-F.Bound i)) k) (c ++ d) (cv ++ dv) ≡ value_in sig m v (roll-Term (Term-F.Bound i)) (c ++ s ∷ d) (cv ++ value_of sig m v u ∷ dv)
  below i c d cv dv k e h =
      let within : IsTrue (nat_lt i k) = search (rules, h) in
      ap (λ t. value_in sig m v t (c ++ d) (cv ++ dv)) (put_below i k h) ∙ value-bound sig m v i (c ++ d) (cv ++ dv)
      ∙ ap (or_else 0) (front_at cv dv i k e within ∙ sym (front_at cv (value_of sig m v u ∷ dv) i k e within)) ∙ sym (value-bound sig m v i (c ++ s ∷ d) (cv ++ value_of sig m v u ∷ dv))

  here : (i : ℕ) (c d : List Ty) (cv dv : List ℕ) (k : ℕ) → length cv ≡ k → i ≡ k →
      value_in sig m v (put u (roll-Term (Term-F.Bound i)) k) (c ++ d) (cv ++ dv) ≡ value_in sig m v (roll-Term (Term-F.Bound i)) (c ++ s ∷ d) (cv ++ value_of sig m v u ∷ dv)
  here i c d cv dv k e h =
      ap (λ t. value_in sig m v t (c ++ d) (cv ++ dv)) (put_here i k h ∙ lift_closed k u 0 (typed_closed sig u [] s typed)) ∙ own_value sig m v u s (c ++ d) (cv ++ dv) typed
      ∙ sym (ap (or_else 0) (middle cv dv (value_of sig m v u) i k e h)) ∙ sym (value-bound sig m v i (c ++ s ∷ d) (cv ++ value_of sig m v u ∷ dv))

  above : (i : ℕ) (c d : List Ty) (cv dv : List ℕ) (k : ℕ) → length cv ≡ k → k < i →
      value_in sig m v (put u (roll-Term (Term-F.Bound i)) k) (c ++ d) (cv ++ dv) ≡ value_in sig m v (roll-Term (Term-F.Bound i)) (c ++ s ∷ d) (cv ++ value_of sig m v u ∷ dv)
  above i c d cv dv k e h =
      ap (λ t. value_in sig m v t (c ++ d) (cv ++ dv)) (put_above i k h) ∙ value-bound sig m v (i - 1) (c ++ d) (cv ++ dv)
      ∙ sym (ap (or_else 0) (get_behind cv dv (value_of sig m v u) i (subst (λ z. z < i) (sym e) h))) ∙ sym (value-bound sig m v i (c ++ s ∷ d) (cv ++ value_of sig m v u ∷ dv))

  put_bound : (i : ℕ) → Put (roll-Term (Term-F.Bound i))
  put_bound i c d cv dv k e f = grind (arith, below i c d cv dv k f, here i c d cv dv k f, above i c d cv dv k f)

  put_of_free : (n : ℕ) (a : Ty) → Put (roll-Term (Term-F.Free n a))
  put_of_free n a c d cv dv k e f =
      ap (λ t. value_in sig m v t (c ++ d) (cv ++ dv)) (put-free u n a k) ∙ value-free sig m v n a (c ++ d) (cv ++ dv) ∙ sym (value-free sig m v n a (c ++ s ∷ d) (cv ++ value_of sig m v u ∷ dv))

  put_of_con : (q : Konst) → Put (roll-Term (Term-F.Con q))
  put_of_con q c d cv dv k e f =
      ap (λ t. value_in sig m v t (c ++ d) (cv ++ dv)) (put-con u q k) ∙ value-con sig m v q (c ++ d) (cv ++ dv) ∙ sym (value-con sig m v q (c ++ s ∷ d) (cv ++ value_of sig m v u ∷ dv))

  put_of_app : (f x : Term) → Put f → Put x → Put (roll-Term (Term-F.App f x))
  put_of_app f x hf hx c d cv dv k e l =
      ap (λ t. value_in sig m v t (c ++ d) (cv ++ dv)) (put-app u f x k)
      ∙ same_app sig m v v (c ++ d) (c ++ s ∷ d) (cv ++ dv) (cv ++ value_of sig m v u ∷ dv) (put u f k) (put u x k) f x
      (sym (ap (λ t. type_in sig t (c ++ d)) (put-app u f x k)) ∙ type_put_at (roll-Term (Term-F.App f x)) c d k e) (hf c d cv dv k e l) (hx c d cv dv k e l)

  put_of_lam : (a : Ty) (t : Term) → Put t → Put (roll-Term (Term-F.Lam a t))
  put_of_lam a t ht c d cv dv k e l =
      let one : length (a ∷ c) ≡ k + 1 = omega arith in
      ap (λ t. value_in sig m v t (c ++ d) (cv ++ dv)) (put-lam u a t k)
      ∙ same_lam sig m v v (c ++ d) (c ++ s ∷ d) (cv ++ dv) (cv ++ value_of sig m v u ∷ dv) a (put u t (k + 1)) t (type_put_at t (a ∷ c) d (k + 1) one)
      (λ x. ht (a ∷ c) d (x ∷ cv) dv (k + 1) one (other x))
    where
      other : (x : ℕ) → length (x ∷ cv) ≡ k + 1
      other x = omega arith

  pub value_put : (t : Term) → Put t
  value_put t = by_cases Put put_bound put_of_free put_of_con put_of_app put_of_lam t

-- ---- the body of the lambda over a variable: the bound variable has the value that the valuation gave to the free one
module _ (sig : Sig) (m : Model) (v : Valuation) (n : ℕ) (a : Ty) (x : ℕ) (fits : IsTrue (ty_fits sig.types a)) where
  abbrev Abstracted : Term → Type 0
  Abstracted t = (c d : List Ty) (cv dv : List ℕ) (k : ℕ) → length c ≡ k → length cv ≡ k →
      value_in sig m v (abstracted_at n a t k) (c ++ a ∷ d) (cv ++ x ∷ dv) ≡ value_in sig m (updated v n a x) t (c ++ d) (cv ++ dv)

  type_at : (t : Term) (c d : List Ty) (k : ℕ) → length c ≡ k → type_in sig (abstracted_at n a t k) (c ++ a ∷ d) ≡ type_in sig t (c ++ d)
  type_at t c d k e = subst (λ z. type_in sig (abstracted_at n a t z) (c ++ a ∷ d) ≡ type_in sig t (c ++ d)) e (type_abstracted sig n a fits t c d)

  moved : (i : ℕ) (c d : List ℕ) (k : ℕ) (b : Bool) → length c ≡ k → nat_lt i k ≡ b → slice_get (c ++ x ∷ d) (if b then i else i + 1) ≡ slice_get (c ++ d) i
  moved i c d k true e h = front_at c (x ∷ d) i k e h ∙ sym (front_at c d i k e h)
  moved i c d k false e h =
      let outside : k < i + 1 = search (rules, h) in
      let beyond : length c < i + 1 = omega arith in
      let back : i + 1 - 1 ≡ i = omega arith in
      get_behind c d x (i + 1) beyond ∙ ap (slice_get (c ++ d)) back

  abstracted_bound : (i : ℕ) → Abstracted (roll-Term (Term-F.Bound i))
  abstracted_bound i c d cv dv k e f =
      ap (λ t. value_in sig m v t (c ++ a ∷ d) (cv ++ x ∷ dv)) (abstracted-bound n a i k) ∙ value-bound sig m v (if nat_lt i k then i else i + 1) (c ++ a ∷ d) (cv ++ x ∷ dv)
      ∙ ap (or_else 0) (moved i cv dv k (nat_lt i k) f refl) ∙ sym (value-bound sig m (updated v n a x) i (c ++ d) (cv ++ dv))

  variable : (p : ℕ) (b : Ty) (c d : List Ty) (cv dv : List ℕ) (k : ℕ) (hit : Bool) → length cv ≡ k →
      value_in sig m v (if hit then roll-Term (Term-F.Bound k) else roll-Term (Term-F.Free p b)) (c ++ a ∷ d) (cv ++ x ∷ dv) ≡ (if hit then x else v p b)
  variable p b c d cv dv k true f =
      value-bound sig m v k (c ++ a ∷ d) (cv ++ x ∷ dv) ∙ ap (or_else 0) (ap (slice_get (cv ++ x ∷ dv)) (sym f) ∙ get_middle cv dv x)
  variable p b c d cv dv k false f = value-free sig m v p b (c ++ a ∷ d) (cv ++ x ∷ dv)

  abstracted_free : (p : ℕ) (b : Ty) → Abstracted (roll-Term (Term-F.Free p b))
  abstracted_free p b c d cv dv k e f =
      ap (λ t. value_in sig m v t (c ++ a ∷ d) (cv ++ x ∷ dv)) (abstracted-free n a p b k) ∙ variable p b c d cv dv k (p == n && is_ty b a) f ∙ sym (value-free sig m (updated v n a x) p b (c ++ d) (cv ++ dv))

  abstracted_con : (q : Konst) → Abstracted (roll-Term (Term-F.Con q))
  abstracted_con q c d cv dv k e f =
      ap (λ t. value_in sig m v t (c ++ a ∷ d) (cv ++ x ∷ dv)) (abstracted-con n a q k) ∙ value-con sig m v q (c ++ a ∷ d) (cv ++ x ∷ dv) ∙ sym (value-con sig m (updated v n a x) q (c ++ d) (cv ++ dv))

  abstracted_app : (f y : Term) → Abstracted f → Abstracted y → Abstracted (roll-Term (Term-F.App f y))
  abstracted_app f y hf hy c d cv dv k e l =
      ap (λ t. value_in sig m v t (c ++ a ∷ d) (cv ++ x ∷ dv)) (abstracted-app n a f y k)
      ∙ same_app sig m v (updated v n a x) (c ++ a ∷ d) (c ++ d) (cv ++ x ∷ dv) (cv ++ dv) (abstracted_at n a f k) (abstracted_at n a y k) f y
      (sym (ap (λ t. type_in sig t (c ++ a ∷ d)) (abstracted-app n a f y k)) ∙ type_at (roll-Term (Term-F.App f y)) c d k e) (hf c d cv dv k e l) (hy c d cv dv k e l)

  abstracted_lam : (b : Ty) (t : Term) → Abstracted t → Abstracted (roll-Term (Term-F.Lam b t))
  abstracted_lam b t ht c d cv dv k e l =
      let one : length (b ∷ c) ≡ k + 1 = omega arith in
      ap (λ t. value_in sig m v t (c ++ a ∷ d) (cv ++ x ∷ dv)) (abstracted-lam n a b t k)
      ∙ same_lam sig m v (updated v n a x) (c ++ a ∷ d) (c ++ d) (cv ++ x ∷ dv) (cv ++ dv) b (abstracted_at n a t (k + 1)) t (type_at t (b ∷ c) d (k + 1) one)
      (λ y. ht (b ∷ c) d (y ∷ cv) dv (k + 1) one (other y))
    where
      other : (y : ℕ) → length (y ∷ cv) ≡ k + 1
      other y = omega arith

  pub value_abstracted : (t : Term) → Abstracted t
  value_abstracted t = by_cases Abstracted abstracted_bound abstracted_free abstracted_con abstracted_app abstracted_lam t

-- ---- a term put for a variable: the variable has the term's value
module _ (sig : Sig) (m : Model) (v : Valuation) (n : ℕ) (a : Ty) (u : Term) (fits : IsTrue (ty_fits sig.types a)) (typed : type_in sig u [] ≡ Some a) where
  abbrev Replaced : Term → Type 0
  Replaced t = (c : List Ty) (cv : List ℕ) → value_in sig m v (put_free (one_put n a u) t) c cv ≡ value_in sig m (updated v n a (value_of sig m v u)) t c cv

  replaced_bound : (i : ℕ) → Replaced (roll-Term (Term-F.Bound i))
  replaced_bound i c cv =
      ap (λ t. value_in sig m v t c cv) (put_free-bound (one_put n a u) i) ∙ value-bound sig m v i c cv ∙ sym (value-bound sig m (updated v n a (value_of sig m v u)) i c cv)

  replaced_variable : (p : ℕ) (b : Ty) (c : List Ty) (cv : List ℕ) (hit : Bool) →
      value_in sig m v (if hit then u else roll-Term (Term-F.Free p b)) c cv ≡ (if hit then value_of sig m v u else v p b)
  replaced_variable p b c cv true = own_value sig m v u a c cv typed
  replaced_variable p b c cv false = value-free sig m v p b c cv

  replaced_free : (p : ℕ) (b : Ty) → Replaced (roll-Term (Term-F.Free p b))
  replaced_free p b c cv =
      ap (λ t. value_in sig m v t c cv) (put_free-free (one_put n a u) p b) ∙ replaced_variable p b c cv (p == n && is_ty b a) ∙ sym (value-free sig m (updated v n a (value_of sig m v u)) p b c cv)

  replaced_con : (q : Konst) → Replaced (roll-Term (Term-F.Con q))
  replaced_con q c cv = ap (λ t. value_in sig m v t c cv) (put_free-con (one_put n a u) q) ∙ value-con sig m v q c cv ∙ sym (value-con sig m (updated v n a (value_of sig m v u)) q c cv)

  replaced_app : (f x : Term) → Replaced f → Replaced x → Replaced (roll-Term (Term-F.App f x))
  replaced_app f x hf hx c cv =
      ap (λ t. value_in sig m v t c cv) (put_free-app (one_put n a u) f x)
      ∙ same_app sig m v (updated v n a (value_of sig m v u)) c c cv cv (put_free (one_put n a u) f) (put_free (one_put n a u) x) f x
      (sym (ap (λ t. type_in sig t c) (put_free-app (one_put n a u) f x)) ∙ type_replaced sig n a u fits typed (roll-Term (Term-F.App f x)) c) (hf c cv) (hx c cv)

  replaced_lam : (b : Ty) (t : Term) → Replaced t → Replaced (roll-Term (Term-F.Lam b t))
  replaced_lam b t ht c cv =
      ap (λ t. value_in sig m v t c cv) (put_free-lam (one_put n a u) b t)
      ∙ same_lam sig m v (updated v n a (value_of sig m v u)) c c cv cv b (put_free (one_put n a u) t) t (type_replaced sig n a u fits typed t (b ∷ c)) (λ x. ht (b ∷ c) (x ∷ cv))

  pub value_replaced : (t : Term) → Replaced t
  value_replaced t = by_cases Replaced replaced_bound replaced_free replaced_con replaced_app replaced_lam t

-- ---- a value depends on the variables that occur
module _ (sig : Sig) (m : Model) (v w : Valuation) where
  abbrev Agree : Term → Type 0
  Agree t = (n : ℕ) (a : Ty) → occurs n a t ≡ true → v n a ≡ w n a

  abbrev Depends : Term → Type 0
  Depends t = (c : List Ty) (cv : List ℕ) → Agree t → value_in sig m v t c cv ≡ value_in sig m w t c cv

  left : (a b : Bool) → a ≡ true → (a || b) ≡ true
  left true b h = refl
  left false b h = cc

  right : (a b : Bool) → b ≡ true → (a || b) ≡ true
  right true b h = refl
  right false b h = h

  depends_free : (n : ℕ) (a : Ty) → Depends (roll-Term (Term-F.Free n a))
  depends_free n a c cv agree =
      let own = and_true (n == n) (is_ty a a) (eq-eqb n n refl) (is_ty_itself a) in
      value-free sig m v n a c cv ∙ agree n a (occurs-free n a n a ∙ own) ∙ sym (value-free sig m w n a c cv)

  depends_app : (f x : Term) → Depends f → Depends x → Depends (roll-Term (Term-F.App f x))
  depends_app f x hf hx c cv agree =
      same_app sig m v w c c cv cv f x f x refl (hf c cv (λ n a h. agree n a (occurs-app n a f x ∙ left (occurs n a f) (occurs n a x) h)))
      (hx c cv (λ n a h. agree n a (occurs-app n a f x ∙ right (occurs n a f) (occurs n a x) h)))

  depends_lam : (b : Ty) (t : Term) → Depends t → Depends (roll-Term (Term-F.Lam b t))
  depends_lam b t ht c cv agree = same_lam sig m v w c c cv cv b t t refl (λ x. ht (b ∷ c) (x ∷ cv) (λ n a h. agree n a (occurs-lam n a b t ∙ h)))

  pub value_depends : (t : Term) → Depends t
  value_depends t =
      by_cases Depends (λ i c cv agree. value-bound sig m v i c cv ∙ sym (value-bound sig m w i c cv)) depends_free (λ q c cv agree. value-con sig m v q c cv ∙ sym (value-con sig m w q c cv)) depends_app
      depends_lam t

-- a variable that doesn't occur may have any value
module _ (sig : Sig) (m : Model) (v : Valuation) (n : ℕ) (a : Ty) (x : ℕ) where
  other : (t : Term) (k : ℕ) (b : Ty) (hit : Bool) → occurs n a t ≡ false → occurs k b t ≡ true → (k == n && is_ty b a) ≡ hit → (if hit then x else v k b) ≡ v k b
  other t k b false absent h e = refl
  other t k b true absent h e =
      let both = both_true (k == n) (is_ty b a) e in
      let number = eqb-true k n both.0 in
      let type = is_ty_same b a both.1 in
      let here : occurs n a t ≡ true = subst (λ z. occurs z a t ≡ true) number (subst (λ z. occurs k z t ≡ true) type h) in
      cc

  pub value_absent : (t : Term) (c : List Ty) (cv : List ℕ) → occurs n a t ≡ false → value_in sig m (updated v n a x) t c cv ≡ value_in sig m v t c cv
  value_absent t c cv absent = value_depends sig m (updated v n a x) v t c cv (λ k b h. other t k b (k == n && is_ty b a) absent h refl)

-- a term without free variables has one value
module _ (sig : Sig) (m : Model) (v w : Valuation) where
  abbrev Alone : Term → Type 0
  Alone t = (c : List Ty) (cv : List ℕ) → IsTrue (var_free t) → value_in sig m v t c cv ≡ value_in sig m w t c cv

  alone_free : (n : ℕ) (a : Ty) → Alone (roll-Term (Term-F.Free n a))
  alone_free n a c cv h = let never : false ≡ true = sym (var_free-free n a) ∙ h in cc

  alone_app : (f x : Term) → Alone f → Alone x → Alone (roll-Term (Term-F.App f x))
  alone_app f x hf hx c cv h =
      let both = both_true (var_free f) (var_free x) (sym (var_free-app f x) ∙ h) in same_app sig m v w c c cv cv f x f x refl (hf c cv both.0) (hx c cv both.1)

  alone_lam : (b : Ty) (t : Term) → Alone t → Alone (roll-Term (Term-F.Lam b t))
  alone_lam b t ht c cv h = same_lam sig m v w c c cv cv b t t refl (λ x. ht (b ∷ c) (x ∷ cv) (sym (var_free-lam b t) ∙ h))

  pub value_alone : (t : Term) → Alone t
  value_alone t = by_cases Alone (λ i c cv h. value-bound sig m v i c cv ∙ sym (value-bound sig m w i c cv)) alone_free (λ q c cv h. value-con sig m v q c cv ∙ sym (value-con sig m w q c cv)) alone_app alone_lam t
