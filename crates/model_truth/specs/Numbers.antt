-- Functions between finite sets of numbers as numbers, and tests over the numbers below a bound.
use Rattle.std.specs.Prelude.{ℕ, zero, suc, ◌+◌, ◌*◌, ◌/◌, ◌%◌, Bool, true, false, ◌&&◌, ◌||◌, if◌then◌else◌}

-- the number whose digits in the base are `f 0`, `f 1`, .. , `f (n - 1)`, the least first
abbrev pub number : ℕ → ℕ → (ℕ → ℕ) → ℕ
number base zero f = 0
number base (suc n) f = number base n (λ a. f (suc a)) * base + f 0

-- the digit at place `a`, the least digit at place 0
abbrev pub digit : ℕ → ℕ → ℕ → ℕ
digit base v zero = v % base
digit base v (suc a) = digit base (v / base) a

-- every number below `n` passes
abbrev pub every_below : ℕ → (ℕ → Bool) → Bool
every_below zero p = true
every_below (suc n) p = every_below n p && p n

-- some number below `n` passes
abbrev pub some_below : ℕ → (ℕ → Bool) → Bool
some_below zero p = false
some_below (suc n) p = some_below n p || p n

-- the least number below `n` that passes, 0 where there is none
abbrev pub least_below : ℕ → (ℕ → Bool) → ℕ
least_below zero p = 0
least_below (suc n) p = if some_below n p then least_below n p else (if p n then n else 0)
