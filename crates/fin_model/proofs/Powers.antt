-- Powers of small sizes.
use Rattle.std.proofs.Common.{◌≡◌, ℕ, zero, suc, ◌*◌, ◌^◌, ◌<◌, ◌≤◌, ◌∙◌, ap, arith}
use Rattle.std.proofs.Math.Nat.{pow-zero, pow-succ', pow-le-pow_left, pow-le-pow_right}
use Rattle.fin_model.proofs.Keeping.{below_power}

pub first_power : (b : ℕ) → b ^ 1 ≡ b
first_power b = let e = pow-succ' b 0 in let z = pow-zero b in e ∙ ap (λ y. b * y) z ∙ omega arith

-- a base is at most its powers
pub base_below : (b n limit : ℕ) → 0 < b → 0 < n → b ^ n ≤ limit → b ≤ limit
base_below b zero limit h k l = absurd (omega arith)
base_below b (suc n) limit h k l = let up : b ^ 1 ≤ b ^ suc n = pow-le-pow_right h (omega arith) in let one = first_power b in omega arith

-- so is an exponent, where the base is at least 2
pub exponent_below : (b n limit : ℕ) → 1 < b → b ^ n ≤ limit → n ≤ limit
exponent_below b n limit h l = let low = below_power n in let up : 2 ^ n ≤ b ^ n = pow-le-pow_left (omega arith) n in omega arith

-- of a choice function: there are few predicates
pub predicates_below : (n : ℕ) → 0 < n → n ^ (2 ^ n) ≤ 65536 → 2 ^ n ≤ 65536
predicates_below zero h l = absurd (omega arith)
predicates_below (suc zero) h l = let one = first_power 2 in omega arith
predicates_below (suc (suc n)) h l = exponent_below (suc (suc n)) (2 ^ suc (suc n)) 65536 (omega arith) l
