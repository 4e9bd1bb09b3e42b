-- A variable that is bound and put in again.
use Rattle.std.proofs.Common.{◌≡◌, ℕ, ◌+◌, ◌<◌, Bool, true, false, ◌&&◌, ◌==◌, if◌then◌else◌, IsTrue, ap, subst, refl, sym, ◌∙◌, rules, arith}
use Rattle.hol_terms.specs.declared.ty.Ty.{Ty}
use Rattle.hol_terms.specs.declared.konst.Konst.{Konst}
use Rattle.hol_terms.specs.declared.term.Term.{Term, roll-Term}
use Rattle.hol_terms.specs.declared.term.Term.TheOpen.{Term-F}
use Rattle.hol_terms.specs.declared.term.Term.TheFolds.{the_lemmas}
use Rattle.hol_terms.specs.Types.{is_ty}
use Rattle.hol_terms.specs.Substitution.{put, abstracted_at, closed_under}
use Rattle.hol_terms.proofs.TermCases.{by_cases}
use Rattle.hol_terms.proofs.TyCases.{is_ty_same}
use Rattle.hol_terms.proofs.Both.{both_true, and_true}
use Rattle.hol_terms.proofs.Equations.{abstracted-free, abstracted-con, abstracted-app, abstracted-lam, put-free, put-con, put-app, put-lam, closed-bound, closed-free, closed-con, closed-app, closed-lam}
use Rattle.kernel_rules.specs.Connectives.{apply, lambda, constant}
use Rattle.hol_derived.proofs.PutPut.{bound, put_below, put_v}
use Rattle.hol_clausify.proofs.Wider.{less, less_told, same_number}

abbrev pub free : ℕ → Ty → Term
free n a = roll-Term (Term-F.Free n a)

module _ (n : ℕ) (a : Ty) where
  abbrev v : Term
  v = free n a

  abbrev Opens : Term → Type 0
  Opens t = (k : ℕ) → IsTrue (closed_under t k) → put v (abstracted_at n a t k) k ≡ t

  abs_below : (i k : ℕ) → i < k → abstracted_at n a (bound i) k ≡ bound i
  abs_below i k h = search (rules, the_lemmas)

  opens_bound : (i : ℕ) → Opens (bound i)
  opens_bound i k h =
      let below : i < k = less i k (subst IsTrue (closed-bound i k) h) in
      ap (λ t. put v t k) (abs_below i k below) ∙ put_below v i k below

  own : (m : ℕ) (b : Ty) → (m == n && is_ty b a) ≡ true → v ≡ free m b
  own m b h = let parts = both_true (m == n) (is_ty b a) h in λ i. free (sym (same_number m n parts.0) i) (sym (is_ty_same b a parts.1) i)

  back : (m : ℕ) (b : Ty) (k : ℕ) (c : Bool) → (m == n && is_ty b a) ≡ c → put v (if c then bound k else free m b) k ≡ free m b
  back m b k true h = put_v n a k k refl ∙ own m b h
  back m b k false h = put-free v m b k

  opens_free : (m : ℕ) (b : Ty) → Opens (free m b)
  opens_free m b k h = ap (λ t. put v t k) (abstracted-free n a m b k) ∙ back m b k (m == n && is_ty b a) refl

  opens_con : (c : Konst) → Opens (constant c)
  opens_con c k h = ap (λ t. put v t k) (abstracted-con n a c k) ∙ put-con v c k

  opens_app : (f x : Term) → Opens f → Opens x → Opens (apply f x)
  opens_app f x hf hx k h =
      let parts = both_true (closed_under f k) (closed_under x k) (subst IsTrue (closed-app f x k) h) in
      ap (λ t. put v t k) (abstracted-app n a f x k) ∙ put-app v (abstracted_at n a f k) (abstracted_at n a x k) k ∙ (λ i. apply (hf k parts.0 i) (hx k parts.1 i))

  opens_lam : (b : Ty) (t : Term) → Opens t → Opens (lambda b t)
  opens_lam b t ht k h =
      ap (λ z. put v z k) (abstracted-lam n a b t k) ∙ put-lam v b (abstracted_at n a t (k + 1)) k ∙ ap (lambda b) (ht (k + 1) (subst IsTrue (closed-lam b t k) h))

  pub put_abstracted : (t : Term) → Opens t
  put_abstracted t = by_cases Opens opens_bound opens_free opens_con opens_app opens_lam t

  -- ---- what is closed stays so where a variable is bound
  abbrev Binds : Term → Type 0
  Binds t = (k : ℕ) → IsTrue (closed_under t k) → IsTrue (closed_under (abstracted_at n a t k) (k + 1))

  binds_bound : (i : ℕ) → Binds (bound i)
  binds_bound i k h =
      let below : i < k = less i k (subst IsTrue (closed-bound i k) h) in
      let lower : i < k + 1 = omega arith in
      subst IsTrue (sym (ap (λ t. closed_under t (k + 1)) (abs_below i k below) ∙ closed-bound i (k + 1))) (less_told i (k + 1) lower)

  bound_or_free : (m : ℕ) (b : Ty) (k : ℕ) (c : Bool) → IsTrue (closed_under (if c then bound k else free m b) (k + 1))
  bound_or_free m b k true = let lower : k < k + 1 = omega arith in subst IsTrue (sym (closed-bound k (k + 1))) (less_told k (k + 1) lower)
  bound_or_free m b k false = closed-free m b (k + 1)

  binds_free : (m : ℕ) (b : Ty) → Binds (free m b)
  binds_free m b k h = subst (λ t. IsTrue (closed_under t (k + 1))) (sym (abstracted-free n a m b k)) (bound_or_free m b k (m == n && is_ty b a))

  binds_con : (c : Konst) → Binds (constant c)
  binds_con c k h = ap (λ t. closed_under t (k + 1)) (abstracted-con n a c k) ∙ closed-con c (k + 1)

  binds_app : (f x : Term) → Binds f → Binds x → Binds (apply f x)
  binds_app f x hf hx k h =
      let parts = both_true (closed_under f k) (closed_under x k) (subst IsTrue (closed-app f x k) h) in
      let g = abstracted_at n a f k in
      let y = abstracted_at n a x k in
      ap (λ t. closed_under t (k + 1)) (abstracted-app n a f x k) ∙ closed-app g y (k + 1) ∙ and_true (closed_under g (k + 1)) (closed_under y (k + 1)) (hf k parts.0) (hx k parts.1)

  binds_lam : (b : Ty) (t : Term) → Binds t → Binds (lambda b t)
  binds_lam b t ht k h =
      ap (λ z. closed_under z (k + 1)) (abstracted-lam n a b t k) ∙ closed-lam b (abstracted_at n a t (k + 1)) (k + 1) ∙ ht (k + 1) (subst IsTrue (closed-lam b t k) h)

  pub closed_abstracted : (t : Term) → Binds t
  closed_abstracted t = by_cases Binds binds_bound binds_free binds_con binds_app binds_lam t
