-- Numbers built from their highest digits down.
use Rattle.std.proofs.Common.{◌≡◌, ℕ, zero, suc, ◌+◌, ◌-◌, ◌*◌, ◌^◌, ◌<◌, ◌≤◌, refl, sym, ◌∙◌, ap, subst, arith}
use Rattle.std.proofs.Math.Nat.{pow-le-pow_right}
use Rattle.model_truth.specs.Numbers.{number}
use Rattle.model_truth.proofs.Digits.{number_below}
use Rattle.fin_model.specs.inner.Building.{high_digits}

same_number : (b n : ℕ) (f g : ℕ → ℕ) → ((a : ℕ) → a < n → f a ≡ g a) → number b n f ≡ number b n g
same_number b zero f g each = refl
same_number b (suc n) f g each =
    let rest = same_number b n (λ a. f (suc a)) (λ a. g (suc a)) (λ a h. each (suc a) (omega arith)) in
    let first = each 0 (omega arith) in
    (λ i. rest i * b + first i)

pub high_none : (b count : ℕ) (f : ℕ → ℕ) → high_digits b count 0 f ≡ 0
unfolding high_digits
high_none b count f = refl

pub high_more : (b count i : ℕ) (f : ℕ → ℕ) → i < count → high_digits b count (i + 1) f ≡ high_digits b count i f * b + f (count - 1 - i)
unfolding high_digits
high_more b count i f h =
    ap (λ z. number b z (λ a. f (count - z + a))) one
    ∙ (λ j. same_number b i (λ a. f (count - suc i + suc a)) (λ a. f (count - i + a)) (λ a _. ap f (moved a)) j * b + f (first j))
  where
    one : i + 1 ≡ suc i
    one = omega arith

    moved : (a : ℕ) → count - suc i + suc a ≡ count - i + a
    moved a = omega arith

    first : count - suc i + 0 ≡ count - 1 - i
    first = omega arith

pub high_all : (b count : ℕ) (f : ℕ → ℕ) → high_digits b count count f ≡ number b count f
unfolding high_digits
high_all b count f = same_number b count (λ a. f (count - count + a)) f (λ a _. ap f (moved a))
  where
    moved : (a : ℕ) → count - count + a ≡ a
    moved a = omega arith

-- with one digit more it is below the power that bounds the whole
pub high_below : (b count i limit : ℕ) (f : ℕ → ℕ) → i < count → ((a : ℕ) → a < count → f a < b) → b ^ count ≤ limit → high_digits b count i f * b + f (count - 1 - i) < limit
unfolding high_digits
high_below b count i limit f h each small =
    let whole = subst (λ z. z < b ^ (i + 1)) (high_more b count i f h) (number_below b (i + 1) (λ a. f (count - (i + 1) + a)) (λ a k. each (count - (i + 1) + a) (inside a k))) in
    let up : b ^ (i + 1) ≤ b ^ count = pow-le-pow_right (positive b (f 0) (each 0 (omega arith))) (omega arith) in
    omega arith
  where
    inside : (a : ℕ) → a < i + 1 → count - (i + 1) + a < count
    inside a k = omega arith

    positive : (c x : ℕ) → x < c → 0 < c
    positive c x k = omega arith

-- the same of a number that was built so far
pub next_below : (number' b count i limit : ℕ) (f : ℕ → ℕ) → number' ≡ high_digits b count i f → i < count → ((a : ℕ) → a < count → f a < b) → b ^ count ≤ limit → number' * b + f (count - 1 - i) < limit
next_below number' b count i limit f e h each small = subst (λ z. z * b + f (count - 1 - i) < limit) (sym e) (high_below b count i limit f h each small)

pub next_is : (number' b count i d : ℕ) (f : ℕ → ℕ) → number' ≡ high_digits b count i f → d ≡ f (count - 1 - i) → i < count → number' * b + d ≡ high_digits b count (i + 1) f
next_is number' b count i d f e g h = (λ j. e j * b + g j) ∙ sym (high_more b count i f h)

pub last_is : (number' b count i : ℕ) (f : ℕ → ℕ) → number' ≡ high_digits b count i f → i ≡ count → number' ≡ number b count f
last_is number' b count i f e h = e ∙ ap (λ z. high_digits b count z f) h ∙ high_all b count f
