-- Tokens in a row: what is put, taken and bounded of two lists one after the other.
use Rattle.std.proofs.Common.{◌≡◌, ℕ, ◌+◌, List, [], ◌∷◌, ◌++◌, length, refl, ap, append_assoc, ◌∙◌, arith}
use Rattle.first_fault.specs.Levels.{Placed, put, Within}
use Rattle.first_fault.specs.Walk.{goes, Goes, Run}

pub put-append : {T : Type 0} (p q : List (Placed T)) (xs : List T) → put (p ++ q) xs ≡ put p (put q xs)
put-append [] q xs = refl
put-append (x ∷ p) q xs = ap (λ ys. x.tok ∷ ys) (put-append p q xs)

pub goes-append : {T V : Type 0} (p q : List (Placed T)) (r : Run V) → goes (p ++ q) r ≡ goes p (goes q r)
goes-append [] q r = refl
goes-append (x ∷ p) q r = ap (λ ys. Goes x.level ys) (goes-append p q r)

pub put_length : {T : Type 0} (p : List (Placed T)) (xs : List T) → length (put p xs) ≡ length p + length xs
put_length [] xs = omega arith
put_length (x ∷ p) xs = let h = put_length p xs in omega arith

pub within-append : {T : Type 0} (m : ℕ) (p q : List (Placed T)) → Within m p → Within m q → Within m (p ++ q)
within-append m [] q a b = b
within-append m (x ∷ p) q a b = (a.0, within-append m p q a.1 b)

-- an infix token between two parts
pub regroup : {T : Type 0} (p q r : List (Placed T)) (x : Placed T) → ((p ++ x ∷ []) ++ q) ++ r ≡ p ++ x ∷ (q ++ r)
regroup p q r x = append_assoc (p ++ x ∷ []) q r ∙ append_assoc p (x ∷ []) (q ++ r)
