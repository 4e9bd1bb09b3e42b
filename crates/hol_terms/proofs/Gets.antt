-- The element behind the first.
use Rattle.std.proofs.Common.{◌≡◌, ◌≢◌, ℕ, zero, suc, ◌-◌, List, ◌∷◌, slice_get, sym, ap, refl, arith}

pub slice_get_tail : {X : Type 0} (x : X) (xs : List X) (i : ℕ) → i ≢ 0 → slice_get (x ∷ xs) i ≡ slice_get xs (i - 1)
slice_get_tail x xs zero n = absurd (n refl)
slice_get_tail x xs (suc i) n = let e : suc i - 1 ≡ i = omega arith in ap (slice_get xs) (sym e)
