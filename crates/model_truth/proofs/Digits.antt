-- Numbers by their digits, and tests over the numbers below a bound.
use Rattle.std.proofs.Common.{◌≡◌, ℕ, zero, suc, ◌+◌, ◌*◌, ◌/◌, ◌%◌, ◌^◌, ◌<◌, Bool, true, false, ◌||◌, if◌then◌else◌, refl, sym, ◌∙◌, ap, subst, arith, ◌⊎◌, inl, inr}
use Rattle.std.proofs.Math.Nat.{pow-zero, pow-succ'}
use Rattle.std.proofs.lemmas.Nat.{mul-add-lt, div-mul-add, mod-mul-add, div_below, mod_below, div-add-mod'}
use Rattle.hol_terms.proofs.Both.{both_true, and_true}
use Rattle.model_truth.specs.Numbers.{number, digit, every_below, some_below, least_below}

-- ---- digits

pub number_below : (b n : ℕ) (f : ℕ → ℕ) → ((a : ℕ) → a < n → f a < b) → number b n f < b ^ n
number_below b zero f each = subst (λ z. 0 < z) (sym (pow-zero b)) (omega arith)
number_below b (suc n) f each =
    let rest = number_below b n (λ a. f (suc a)) (λ a h. each (suc a) (omega arith)) in
    subst (λ z. number b (suc n) f < z) (sym (pow-succ' b n)) (mul-add-lt (number b n (λ a. f (suc a))) b (f 0) (b ^ n) rest (each 0 (omega arith)))

pub digit_below : (b v a : ℕ) → 0 < b → digit b v a < b
digit_below b v zero h = mod_below v b h
digit_below b v (suc a) h = digit_below b (v / b) a h

-- the digits that a number was made of
pub digit_number : (b n : ℕ) (f : ℕ → ℕ) (a : ℕ) → ((c : ℕ) → c < n → f c < b) → a < n → digit b (number b n f) a ≡ f a
digit_number b zero f a each h = absurd (omega arith)
digit_number b (suc n) f zero each h = mod-mul-add (number b n (λ c. f (suc c))) b (f 0) (each 0 (omega arith))
digit_number b (suc n) f (suc a) each h =
    ap (λ z. digit b z a) (div-mul-add (number b n (λ c. f (suc c))) b (f 0) (each 0 (omega arith))) ∙ digit_number b n (λ c. f (suc c)) a (λ c k. each (suc c) (omega arith)) (omega arith)

-- numbers with equal digits are equal
pub equal_digits : (b n u v : ℕ) → 0 < b → u < b ^ n → v < b ^ n → ((a : ℕ) → a < n → digit b u a ≡ digit b v a) → u ≡ v
equal_digits b zero u v h hu hv each = let up = subst (λ z. u < z) (pow-zero b) hu in let vp = subst (λ z. v < z) (pow-zero b) hv in omega arith
equal_digits b (suc n) u v h hu hv each =
    let up = subst (λ z. u < z) (pow-succ' b n) hu in
    let vp = subst (λ z. v < z) (pow-succ' b n) hv in
    let rest = equal_digits b n (u / b) (v / b) h (div_below u b (b ^ n) h (turned u up)) (div_below v b (b ^ n) h (turned v vp)) (λ a k. each (suc a) (omega arith)) in
    let first : u % b ≡ v % b = each 0 (omega arith) in
    put_together rest first
  where
    turned : (w : ℕ) → w < b * b ^ n → w < b ^ n * b
    turned w k = omega arith

    put_together : u / b ≡ v / b → u % b ≡ v % b → u ≡ v
    put_together p q = sym (div-add-mod' u b) ∙ (λ i. p i * b + q i) ∙ div-add-mod' v b

-- a number is that of its digits
pub number_digits : (b n v : ℕ) → 0 < b → v < b ^ n → number b n (digit b v) ≡ v
number_digits b n v h hv =
    equal_digits b n (number b n (digit b v)) v h (number_below b n (digit b v) (λ a _. digit_below b v a h)) hv
    (λ a k. digit_number b n (digit b v) a (λ c _. digit_below b v c h) k)

-- ---- tests below a bound

or_cases : (a b : Bool) → (a || b) ≡ true → (a ≡ true) ⊎ (b ≡ true)
or_cases true b h = inl refl
or_cases false b h = inr h

or_left : (a b : Bool) → a ≡ true → (a || b) ≡ true
or_left true b h = refl
or_left false b h = cc

or_right : (a b : Bool) → b ≡ true → (a || b) ≡ true
or_right true b h = refl
or_right false b h = h

pub below_suc : (a n : ℕ) → a < suc n → (a < n) ⊎ (a ≡ n)
below_suc zero zero h = inr refl
below_suc zero (suc n) h = inl (omega arith)
below_suc (suc a) zero h = absurd (omega arith)
below_suc (suc a) (suc n) h = elim (below_suc a n (omega arith)) [ inl k ↦ inl (omega arith) | inr e ↦ inr (ap suc e) ]

pub every_each : (n : ℕ) (p : ℕ → Bool) → every_below n p ≡ true → (a : ℕ) → a < n → p a ≡ true
every_each zero p h a k = absurd (omega arith)
every_each (suc n) p h a k =
    let both = both_true (every_below n p) (p n) h in
    elim (below_suc a n k) [ inl l ↦ every_each n p both.0 a l | inr e ↦ subst (λ z. p z ≡ true) (sym e) both.1 ]

pub each_every : (n : ℕ) (p : ℕ → Bool) → ((a : ℕ) → a < n → p a ≡ true) → every_below n p ≡ true
each_every zero p each = refl
each_every (suc n) p each = and_true (every_below n p) (p n) (each_every n p (λ a h. each a (omega arith))) (each n (omega arith))

pub one_some : (n : ℕ) (p : ℕ → Bool) (a : ℕ) → a < n → p a ≡ true → some_below n p ≡ true
one_some zero p a h k = absurd (omega arith)
one_some (suc n) p a h k =
    elim (below_suc a n h) [ inl l ↦ or_left (some_below n p) (p n) (one_some n p a l k) | inr e ↦ or_right (some_below n p) (p n) (subst (λ z. p z ≡ true) e k) ]

-- where some number passes, the least does
chosen_passes : (p : ℕ → Bool) (n k : ℕ) (earlier here : Bool) → (earlier ≡ true → p k ≡ true) → p n ≡ here → (earlier || here) ≡ true → p (if earlier then k else (if here then n else 0)) ≡ true
chosen_passes p n k true here e h l = e refl
chosen_passes p n k false true e h l = h
chosen_passes p n k false false e h l = cc

pub least_passes : (n : ℕ) (p : ℕ → Bool) → some_below n p ≡ true → p (least_below n p) ≡ true
least_passes zero p h = cc
least_passes (suc n) p h = chosen_passes p n (least_below n p) (some_below n p) (p n) (λ e. least_passes n p e) refl h

chosen_within : (n k : ℕ) (earlier here : Bool) → k < suc n → (if earlier then k else (if here then n else 0)) < suc n
chosen_within n k true here h = h
chosen_within n k false true h = omega arith
chosen_within n k false false h = omega arith

least_at_most : (n : ℕ) (p : ℕ → Bool) → least_below n p < suc n
least_at_most zero p = omega arith
least_at_most (suc n) p = let within = chosen_within n (least_below n p) (some_below n p) (p n) (least_at_most n p) in omega arith

pub least_within : (n : ℕ) (p : ℕ → Bool) → 0 < n → least_below n p < n
least_within zero p h = absurd (omega arith)
least_within (suc n) p h = chosen_within n (least_below n p) (some_below n p) (p n) (least_at_most n p)
