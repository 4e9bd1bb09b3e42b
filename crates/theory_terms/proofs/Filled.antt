-- One leaf more.
use Rattle.std.proofs.Common.{◌≡◌, ℕ, zero, suc, List, [], ◌∷◌, ◌++◌, length}
use Rattle.hol_terms.specs.declared.term.Term.{Term}
use Rattle.theory_terms.specs.inner.Leaves.{AreLeaves}

pub one_more : (leaf : ℕ → Term) (xs : List Term) (x : Term) → AreLeaves leaf xs → x ≡ leaf (length xs) → AreLeaves leaf (xs ++ x ∷ [])
one_more leaf [] x h is zero t e = cc
one_more leaf [] x h is (suc i) t e = absurd cc
one_more leaf (y ∷ xs) x h is zero t e = h 0 t e
one_more leaf (y ∷ xs) x h is (suc i) t e = one_more (λ n. leaf (suc n)) xs x (λ j. h (suc j)) is i t e
