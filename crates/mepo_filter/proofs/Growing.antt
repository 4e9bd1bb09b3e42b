-- More relevant constants raise a score.
use Rattle.std.proofs.Common.{◌≡◌, ℕ, ◌+◌, ◌-◌, ◌*◌, ◌≤◌, ◌^◌, Bool, true, false, cond, List, [], ◌∷◌, length, refl, arith}
use Rattle.std.specs.Prelude.{filter, not, nat_le, sum_by}
use Rattle.std.proofs.lemmas.List.Sums.{sum_by-cons}
use Rattle.std.proofs.lemmas.Bool.Decides.{nat_tests}
use Rattle.std.proofs.Math.Nat.{mul-le-mul_right, mul-le-mul_left}
use Rattle.mepo_filter.specs.Scores.{relevant_weight, irrelevant_weight, score, reaches}

-- the first set is within the second
abbrev pub Within : (ℕ → Bool) → (ℕ → Bool) → Type 0
Within a b = (c : ℕ) → a c ≡ true → b c ≡ true

more_weight : (weigh : ℕ → ℕ) (a b : ℕ → Bool) → Within a b → (cs : List ℕ) → relevant_weight weigh a cs ≤ relevant_weight weigh b cs
more_weight weigh a b h [] = omega arith
more_weight weigh a b h (c ∷ cs) = go (a c) (b c) (h c) (more_weight weigh a b h cs)
  where
    go : (x y : Bool) → (x ≡ true → y ≡ true) → relevant_weight weigh a cs ≤ relevant_weight weigh b cs →
        sum_by weigh (cond x (c ∷ filter a cs) (filter a cs)) ≤ sum_by weigh (cond y (c ∷ filter b cs) (filter b cs))
    go true true i rest = omega (arith, sum_by-cons weigh c (filter a cs), sum_by-cons weigh c (filter b cs))
    go true false i rest = let e : false ≡ true = i refl in absurd (cc)
    go false true i rest = omega (arith, sum_by-cons weigh c (filter b cs))
    go false false i rest = rest

fewer_others : (a b : ℕ → Bool) → Within a b → (cs : List ℕ) → length (filter (λ c. not (b c)) cs) ≤ length (filter (λ c. not (a c)) cs)
fewer_others a b h [] = omega arith
fewer_others a b h (c ∷ cs) = go (a c) (b c) (h c) (fewer_others a b h cs)
  where
    go : (x y : Bool) → (x ≡ true → y ≡ true) → length (filter (λ c. not (b c)) cs) ≤ length (filter (λ c. not (a c)) cs) →
        length (cond (not y) (c ∷ filter (λ c. not (b c)) cs) (filter (λ c. not (b c)) cs)) ≤ length (cond (not x) (c ∷ filter (λ c. not (a c)) cs) (filter (λ c. not (a c)) cs))
    go true true i rest = rest
    go true false i rest = let e : false ≡ true = i refl in absurd (cc)
    go false true i rest = omega arith
    go false false i rest = omega arith

-- the mark p, the relevant weights m and n and the others i and j
raised : (p m n i j : ℕ) → p ≤ 2 ^ 20 → m ≤ n → j ≤ i → p * (m + i) ≤ m * 2 ^ 20 → p * (n + j) ≤ n * 2 ^ 20
raised p m n i j small up down h =
    let more : p * (n - m) ≤ 2 ^ 20 * (n - m) = mul-le-mul_right (n - m) small in
    let less : p * j ≤ p * i = mul-le-mul_left p down in
    let parts : n ≡ m + (n - m) = omega arith in
    go (n - m) parts more less
  where
    go : (d : ℕ) → n ≡ m + d → p * d ≤ 2 ^ 20 * d → p * j ≤ p * i → p * (n + j) ≤ n * 2 ^ 20
    go d is more less = let step : p * (m + d + j) ≤ (m + d) * 2 ^ 20 = omega arith in rw is step

le_from : (a b : ℕ) → nat_le a b ≡ true → a ≤ b
le_from a b e = grind (arith, nat_tests)

from_le : (a b : ℕ) → a ≤ b → nat_le a b ≡ true
from_le a b h = grind (arith, nat_tests)

pub reaches_more : (weigh : ℕ → ℕ) (a b : ℕ → Bool) (p : ℕ) → p ≤ 2 ^ 20 → Within a b → (cs : List ℕ) → reaches p (score weigh a cs) ≡ true → reaches p (score weigh b cs) ≡ true
reaches_more weigh a b p small h [] e = e
reaches_more weigh a b p small h (c ∷ cs) e =
    from_le (p * (relevant_weight weigh b (c ∷ cs) + irrelevant_weight b (c ∷ cs))) (relevant_weight weigh b (c ∷ cs) * 2 ^ 20)
    (raised p (relevant_weight weigh a (c ∷ cs)) (relevant_weight weigh b (c ∷ cs)) (irrelevant_weight a (c ∷ cs)) (irrelevant_weight b (c ∷ cs)) small
    (more_weight weigh a b h (c ∷ cs)) (omega (arith, fewer_others a b h (c ∷ cs)))
    (le_from (p * (relevant_weight weigh a (c ∷ cs) + irrelevant_weight a (c ∷ cs))) (relevant_weight weigh a (c ∷ cs) * 2 ^ 20) e))
