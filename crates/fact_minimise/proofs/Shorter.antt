-- Lists that a turn tries are sublists, and shorter.
use Rattle.std.proofs.Common.{◌≡◌, ℕ, ◌<◌, ◌≤◌, Bool, true, false, cond, List, [], ◌∷◌, ◌++◌, length, take, drop, ap, arith, zero, suc, inl, inr, length-append, length-drop}
use Rattle.std.specs.Prelude.{◌==◌, not, Contains}
use Rattle.std.proofs.lemmas.Bool.Decides.{eqb_tells}
use Rattle.std.proofs.lemmas.List.{length-take}
use Rattle.fact_minimise.specs.Sublists.{IsSublist, none, with_first, without_first, without}

-- a list is a sublist of itself
pub sublist-self : (xs : List ℕ) → IsSublist xs xs
sublist-self [] = none
sublist-self (x ∷ xs) = with_first (sublist-self xs)

-- a sublist of a sublist
pub sublist-sublist : {xs ys zs : List ℕ} → IsSublist xs ys → IsSublist ys zs → IsSublist xs zs
sublist-sublist p none = p
sublist-sublist p (without_first q) = without_first (sublist-sublist p q)
sublist-sublist (with_first p) (with_first q) = with_first (sublist-sublist p q)
sublist-sublist (without_first p) (with_first q) = without_first (sublist-sublist p q)

choose : (b : Bool) (x : ℕ) (xs ys : List ℕ) → IsSublist xs ys → IsSublist (cond b (x ∷ xs) xs) (x ∷ ys)
choose true x xs ys p = with_first p
choose false x xs ys p = without_first p

pub sublist-without : (fact : ℕ) (xs : List ℕ) → IsSublist (without fact xs) xs
sublist-without fact [] = none
sublist-without fact (x ∷ xs) = choose (not (x == fact)) x (without fact xs) xs (sublist-without fact xs)

sublist-drop : (n : ℕ) (xs : List ℕ) → IsSublist (drop n xs) xs
sublist-drop zero xs = sublist-self xs
sublist-drop (suc n) [] = none
sublist-drop (suc n) (x ∷ xs) = without_first (sublist-drop n xs)

-- a list without a block
pub sublist-cut : (a b : ℕ) (xs : List ℕ) → a ≤ b → IsSublist (take a xs ++ drop b xs) xs
sublist-cut zero b xs h = sublist-drop b xs
sublist-cut (suc a) zero xs h = absurd (omega arith)
sublist-cut (suc a) (suc b) [] h = none
sublist-cut (suc a) (suc b) (x ∷ xs) h = with_first (sublist-cut a b xs (omega arith))

pub shorter-cut : (a b : ℕ) (xs : List ℕ) → a < b → b ≤ length xs → length (take a xs ++ drop b xs) < length xs
shorter-cut a b xs h within =
    omega (arith, length-append (take a xs) (drop b xs), length-take a xs, length-drop b xs)

no-longer : (b : Bool) (x : ℕ) (xs ys : List ℕ) → length xs ≤ length ys → length (cond b (x ∷ xs) xs) ≤ suc (length ys)
no-longer true x xs ys h = omega arith
no-longer false x xs ys h = omega arith

length-without : (fact : ℕ) (xs : List ℕ) → length (without fact xs) ≤ length xs
length-without fact [] = omega arith
length-without fact (x ∷ xs) = no-longer (not (x == fact)) x (without fact xs) xs (length-without fact xs)

shorter-tail : (b : Bool) (x : ℕ) (xs ys : List ℕ) → length xs < length ys → length (cond b (x ∷ xs) xs) < suc (length ys)
shorter-tail true x xs ys h = omega arith
shorter-tail false x xs ys h = omega arith

-- a list without one of its facts
pub shorter-without : (fact : ℕ) (xs : List ℕ) → Contains xs fact → length (without fact xs) < length xs
shorter-without fact [] (k, within, same) = absurd (omega arith)
shorter-without fact (x ∷ xs) (zero, within, same) =
    elim (eqb_tells x fact) [
      | inl p ↦
          (let here : without fact (x ∷ xs) ≡ without fact xs = ap (λ b. cond (not b) (x ∷ without fact xs) (without fact xs)) p.0 in
          omega (arith, ap length here, length-without fact xs))
      | inr p ↦ absurd (p.1 same)
    ]
shorter-without fact (x ∷ xs) (suc k, within, same) =
    shorter-tail (not (x == fact)) x (without fact xs) xs (shorter-without fact xs (k, omega arith, same))
