-- Sizes of functions, as far as they are kept.
use Rattle.std.proofs.Common.{◌≡◌, ℕ, zero, suc, ◌*◌, ◌^◌, ◌<◌, ◌≤◌, Bool, true, false, if◌then◌else◌, refl, sym, ◌∙◌, ap, subst, arith, nat_le, Some, None}
use Rattle.std.proofs.Math.Nat.{pow-zero, pow-succ', pow-le-pow_left, pow-le-pow_right}
use Rattle.std.proofs.lemmas.Nat.{pow_pos}
use Rattle.std.proofs.lemmas.Bool.{leb-true, leb-false, le-leb}
use Rattle.fin_model.specs.Fitting.{kept_size}

-- a size that is kept is itself, and within the limit; one that isn't is above it
pub kept_some : (n x : ℕ) → Some n ≡ kept_size x → (n ≡ x) × (x ≤ 65536)
kept_some n x h = chosen (nat_le x 65536) refl h
  where
    chosen : (b : Bool) → nat_le x 65536 ≡ b → Some n ≡ (if b then Some x else None) → (n ≡ x) × (x ≤ 65536)
    chosen true e k = (cc, leb-true x 65536 e)
    chosen false e k = cc

pub kept_none : (x : ℕ) → None ≡ kept_size x → 65536 < x
kept_none x h = chosen (nat_le x 65536) refl h
  where
    chosen : (b : Bool) → nat_le x 65536 ≡ b → None ≡ (if b then Some x else None) → 65536 < x
    chosen true e k = cc
    chosen false e k = leb-false x 65536 e

pub kept_within : (x : ℕ) → x ≤ 65536 → kept_size x ≡ Some x
kept_within x h = ap (λ b. if b then Some x else None) (le-leb x 65536 h)

pub kept_beyond : (x : ℕ) → 65536 < x → kept_size x ≡ None
kept_beyond x h = chosen (nat_le x 65536) refl
  where
    chosen : (b : Bool) → nat_le x 65536 ≡ b → (if b then Some x else None) ≡ None
    chosen true e = absurd (let k = leb-true x 65536 e in omega arith)
    chosen false e = refl

-- ---- powers

zero_power : (n : ℕ) → 0 < n → 0 ^ n ≡ 0
zero_power zero h = absurd (omega arith)
zero_power (suc n) h = let e = pow-succ' 0 n in omega arith

one_power : (n : ℕ) → 1 ^ n ≡ 1
one_power zero = pow-zero 1
one_power (suc n) = let e = pow-succ' 1 n in let rest = one_power n in omega arith

pub below_power : (n : ℕ) → n < 2 ^ n
below_power zero = pow_pos 0
below_power (suc n) = let rest = below_power n in let twice = pow-succ' 2 n in omega arith

-- a small base keeps its size
pub small_power : (b n : ℕ) → b ≤ 1 → 0 < n → b ^ n ≡ b
small_power zero n h k = zero_power n k
small_power (suc zero) n h k = one_power n
small_power (suc (suc b)) n h k = absurd (omega arith)

pub great_exponent : (b n : ℕ) → 1 < b → 65536 < n → 65536 < b ^ n
great_exponent b n h k = let low = below_power n in let more : 2 ^ n ≤ b ^ n = pow-le-pow_left (omega arith) n in omega arith

pub great_base : (b n : ℕ) → 65536 < b → 0 < n → 65536 < b ^ n
great_base b zero h k = absurd (omega arith)
great_base b (suc n) h k = let up : b ^ 1 ≤ b ^ suc n = pow-le-pow_right (omega arith) (omega arith) in let one : b ^ 1 ≡ b = first b in omega arith
  where
    first : (c : ℕ) → c ^ 1 ≡ c
    first c = pow-succ' c 0 ∙ ap (λ z. c * z) (pow-zero c) ∙ omega arith

pub longer_power : (b i n : ℕ) → 1 < b → i ≤ n → 65536 < b ^ i → 65536 < b ^ n
longer_power b i n h k l = let up : b ^ i ≤ b ^ n = pow-le-pow_right (omega arith) k in omega arith

-- ---- what is kept of the size of functions

pub kept_small_power : (b n : ℕ) → b ≤ 1 → 0 < n → Some b ≡ kept_size (b ^ n)
kept_small_power b n h k = sym (ap kept_size (small_power b n h k) ∙ kept_within b (omega arith))

pub kept_no_power : (b i n : ℕ) → 1 < b → i ≤ n → 65536 < b ^ i → None ≡ kept_size (b ^ n)
kept_no_power b i n h k l = sym (kept_beyond (b ^ n) (longer_power b i n h k l))

pub into_few : (b x y : ℕ) → None ≡ kept_size x → Some b ≡ kept_size y → b ≤ 1 → Some b ≡ kept_size (y ^ x)
into_few b x y hx hy h =
    let great = kept_none x hx in
    let same = (kept_some b y hy).0 in
    kept_small_power b x h (omega arith) ∙ ap (λ z. kept_size (z ^ x)) same

pub into_many : (b x y : ℕ) → None ≡ kept_size x → Some b ≡ kept_size y → 1 < b → None ≡ kept_size (y ^ x)
into_many b x y hx hy h = let same = (kept_some b y hy).0 in sym (kept_beyond (y ^ x) (great_exponent y x (subst (λ z. 1 < z) same h) (kept_none x hx)))

pub from_some : (a x y : ℕ) → Some a ≡ kept_size x → None ≡ kept_size y → 0 < a → None ≡ kept_size (y ^ x)
from_some a x y hx hy h = let same = (kept_some a x hx).0 in sym (kept_beyond (y ^ x) (great_base y x (kept_none y hy) (subst (λ z. 0 < z) same h)))

pub from_many : (x y : ℕ) → None ≡ kept_size x → None ≡ kept_size y → None ≡ kept_size (y ^ x)
from_many x y hx hy = let great = kept_none x hx in sym (kept_beyond (y ^ x) (great_base y x (kept_none y hy) (omega arith)))
