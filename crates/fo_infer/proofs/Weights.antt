-- The weights of instances, summed one after another.
use Rattle.std.proofs.Common.{◌≡◌, ℕ, zero, suc, ◌+◌, ◌<◌, ◌≤◌, List, [], ◌∷◌, map, take, length, get_or, sum, refl, ap, ◌∙◌, arith}
use Rattle.std.proofs.lemmas.List.Sums.{sum_by-cons}
use Rattle.fo_terms.specs.declared.term.FoTerm.{FoTerm}
use Rattle.fo_terms.specs.Substitution.{put}
use Rattle.fo_terms.specs.Weight.{size_of}

-- what the instances of all these terms weigh
abbrev pub weights : (ℕ → FoTerm) → List FoTerm → ℕ
weights v ts = sum (map size_of (map (put v) ts))

one_more : (v : ℕ → FoTerm) (x : FoTerm) (ts : List FoTerm) → weights v (x ∷ ts) ≡ size_of (put v x) + weights v ts
one_more v x ts = sum_by-cons (λ n. n) (size_of (put v x)) (map size_of (map (put v) ts))

taken_next : (v : ℕ → FoTerm) (ts : List FoTerm) (i : ℕ) (t : FoTerm) → i < length ts → t ≡ get_or ts i t → weights v (take (suc i) ts) ≡ weights v (take i ts) + size_of (put v t)
taken_next v [] i t within is = absurd (omega arith)
taken_next v (x ∷ ts) zero t within is =
    let same : size_of (put v t) ≡ size_of (put v x) = ap (λ s. size_of (put v s)) is in
    let one : weights v (take (suc zero) (x ∷ ts)) ≡ size_of (put v x) + weights v [] = one_more v x [] in
    let none : weights v [] ≡ 0 = refl in
    let start : weights v (take zero (x ∷ ts)) ≡ 0 = refl in
    omega arith
taken_next v (x ∷ ts) (suc i) t within is =
    let inside : i < length ts = omega arith in
    let rest = taken_next v ts i t inside is in
    let one : weights v (take (suc i) (x ∷ ts)) ≡ size_of (put v x) + weights v (take i ts) = one_more v x (take i ts) in
    let two : weights v (take (suc (suc i)) (x ∷ ts)) ≡ size_of (put v x) + weights v (take (suc i) ts) = one_more v x (take (suc i) ts) in
    omega arith

pub taken_more : (v : ℕ → FoTerm) (ts : List FoTerm) (i : ℕ) (t : FoTerm) → i < length ts → t ≡ get_or ts i t → weights v (take (i + 1) ts) ≡ weights v (take i ts) + size_of (put v t)
taken_more v ts i t within is = let next : i + 1 ≡ suc i = omega arith in ap (λ n. weights v (take n ts)) next ∙ taken_next v ts i t within is

pub taken_within : (v : ℕ → FoTerm) (ts : List FoTerm) (i : ℕ) (t : FoTerm) → i < length ts → t ≡ get_or ts i t → weights v (take i ts) + size_of (put v t) ≤ weights v ts
taken_within v [] i t within is = absurd (omega arith)
taken_within v (x ∷ ts) zero t within is =
    let same : size_of (put v t) ≡ size_of (put v x) = ap (λ s. size_of (put v s)) is in
    let one = one_more v x ts in
    let none : weights v [] ≡ 0 = refl in
    omega arith
taken_within v (x ∷ ts) (suc i) t within is =
    let inside : i < length ts = omega arith in
    let rest = taken_within v ts i t inside is in
    let one : weights v (x ∷ take i ts) ≡ size_of (put v x) + weights v (take i ts) = one_more v x (take i ts) in
    let whole = one_more v x ts in
    omega arith
