-- A term without indexes beyond some binders has none beyond more of them.
use Rattle.std.proofs.Common.{◌≡◌, ℕ, ◌+◌, ◌≤◌, ◌<◌, ◌==◌, true, nat_lt, IsTrue, subst, sym, arith}
use Rattle.std.proofs.lemmas.Bool.Decides.{nat_tests}
use Rattle.hol_terms.specs.declared.ty.Ty.{Ty}
use Rattle.hol_terms.specs.declared.term.Term.{Term}
use Rattle.hol_terms.specs.Substitution.{closed_under, is_closed, put}
use Rattle.hol_terms.proofs.TermCases.{by_cases}
use Rattle.hol_terms.proofs.Both.{both_true, and_true}
use Rattle.hol_terms.proofs.Equations.{closed-bound, closed-free, closed-con, closed-app, closed-lam}
use Rattle.kernel_rules.specs.Connectives.{apply, lambda}
use Rattle.hol_derived.proofs.PutPut.{bound}
use Rattle.hol_derived.proofs.Holes.{put_closed}

-- ---- numbers in order, as tests
pub less : (i k : ℕ) → IsTrue (nat_lt i k) → i < k
less i k h = grind (arith, nat_tests)

pub less_told : (i k : ℕ) → i < k → IsTrue (nat_lt i k)
less_told i k h = grind (arith, nat_tests)

pub same_number : (m n : ℕ) → (m == n) ≡ true → m ≡ n
same_number m n h = grind (arith, nat_tests)

-- ---- indexes
abbrev Wider : Term → Type 0
Wider t = (j k : ℕ) → j ≤ k → IsTrue (closed_under t j) → IsTrue (closed_under t k)

wider_bound : (i : ℕ) → Wider (bound i)
wider_bound i j k h c =
    let low : i < j = less i j (subst IsTrue (closed-bound i j) c) in
    let high : i < k = omega arith in
    subst IsTrue (sym (closed-bound i k)) (less_told i k high)

wider_app : (f x : Term) → Wider f → Wider x → Wider (apply f x)
wider_app f x hf hx j k h c =
    let parts = both_true (closed_under f j) (closed_under x j) (subst IsTrue (closed-app f x j) c) in
    subst IsTrue (sym (closed-app f x k)) (and_true (closed_under f k) (closed_under x k) (hf j k h parts.0) (hx j k h parts.1))

wider_lam : (a : Ty) (b : Term) → Wider b → Wider (lambda a b)
wider_lam a b hb j k h c = subst IsTrue (sym (closed-lam a b k)) (hb (j + 1) (k + 1) (omega arith) (subst IsTrue (closed-lam a b j) c))

pub closed_wider : (t : Term) → Wider t
closed_wider t = by_cases Wider wider_bound (λ n a j k h c. closed-free n a k) (λ c j k h d. closed-con c k) wider_app wider_lam t

pub closed_everywhere : (t : Term) (k : ℕ) → IsTrue (is_closed t) → IsTrue (closed_under t k)
closed_everywhere t k h = closed_wider t 0 k (omega arith) h

-- a closed term stays wherever a value is put in
pub put_everywhere : (v t : Term) (k : ℕ) → IsTrue (is_closed t) → put v t k ≡ t
put_everywhere v t k h = put_closed v t k (closed_everywhere t k h)
