-- How the stages of blocks are placed, and how the turns left fall.
use Rattle.std.proofs.Common.{◌≡◌, ℕ, ◌+◌, ◌-◌, ◌*◌, ◌/◌, ◌<◌, ◌≤◌, Bool, true, false, List, [], refl, arith, zero, suc}
use Rattle.std.specs.Prelude.{nat_lt, nat_le, ◌==◌, ◌&&◌, if◌then◌else◌}
use Rattle.std.proofs.Math.Nat.{mul-div-le, mul-le-mul_left}
use Rattle.std.proofs.lemmas.Bool.{ltb-true, leb-true}
use Rattle.std.proofs.lemmas.Bool.Decides.{nat_tests}
use Rattle.std.proofs.lemmas.Nat.{le-div}
use Rattle.fact_minimise.specs.declared.stage.Stage.TheVariants.{Blocks, Facts}
use Rattle.fact_minimise.specs.Stages.{IsStageOf, needed_of, left_of, blocks_at, blocks_of, block_end}

and-both : (a b : Bool) → (a && b) ≡ true → (a ≡ true) × (b ≡ true)
and-both true true e = (refl, refl)
and-both true false e = cc
and-both false b e = cc

-- a stage of blocks fits the facts
blocks-fit-at : (n parts next : ℕ) → (0 < parts → next < parts) → IsStageOf n (blocks_at n parts next)
blocks-fit-at n parts next within = go (nat_lt 0 parts && nat_le parts (n / 2)) refl
  where
    go : (b : Bool) → (nat_lt 0 parts && nat_le parts (n / 2)) ≡ b → IsStageOf n (if b then Blocks parts next else Facts 0 0)
    go true e =
        let both = and-both (nat_lt 0 parts) (nat_le parts (n / 2)) e in
        let half : parts ≤ n / 2 = leb-true parts (n / 2) both.1 in
        (within (ltb-true 0 parts both.0), omega arith)
    go false e = (omega arith, omega arith)

pub blocks-fit : (n parts next : ℕ) → IsStageOf n (blocks_of n parts next)
blocks-fit n parts next = go (nat_lt next parts) refl
  where
    go : (b : Bool) → nat_lt next parts ≡ b → IsStageOf n (if b then blocks_at n parts next else blocks_at n (2 * parts) 0)
    go true e = blocks-fit-at n parts next (λ some. ltb-true next parts e)
    go false e = blocks-fit-at n (2 * parts) 0 (λ some. some)

-- nothing is needed yet
blocks-need-at : (n parts next : ℕ) (kept : List ℕ) → needed_of kept (blocks_at n parts next) ≡ []
blocks-need-at n parts next kept = go (nat_lt 0 parts && nat_le parts (n / 2))
  where
    go : (b : Bool) → needed_of kept (if b then Blocks parts next else Facts 0 0) ≡ []
    go true = refl
    go false = refl

pub blocks-need : (n parts next : ℕ) (kept : List ℕ) → needed_of kept (blocks_of n parts next) ≡ []
blocks-need n parts next kept = go (nat_lt next parts)
  where
    go : (b : Bool) → needed_of kept (if b then blocks_at n parts next else blocks_at n (2 * parts) 0) ≡ []
    go true = blocks-need-at n parts next kept
    go false = blocks-need-at n (2 * parts) 0 kept

-- the turns left from a block on
blocks-left-at : (n parts next : ℕ) → left_of n (blocks_at n parts next) ≤ n * n + (n - (parts + next))
blocks-left-at n parts next = go (nat_lt 0 parts && nat_le parts (n / 2))
  where
    go : (b : Bool) → left_of n (if b then Blocks parts next else Facts 0 0) ≤ n * n + (n - (parts + next))
    go true = omega arith
    go false = omega arith

pub blocks-left : (n parts next : ℕ) → left_of n (blocks_of n parts next) ≤ n * n + n
blocks-left n parts next = go (nat_lt next parts)
  where
    go : (b : Bool) → left_of n (if b then blocks_at n parts next else blocks_at n (2 * parts) 0) ≤ n * n + n
    go true = omega (arith, blocks-left-at n parts next)
    go false = omega (arith, blocks-left-at n (2 * parts) 0)

-- fewer turns are left behind a block that is kept
pub block-kept-fewer : (n parts next : ℕ) → next < parts → 2 * parts ≤ n → left_of n (blocks_of n parts (next + 1)) < n * n + (n - (parts + next))
block-kept-fewer n parts next within room = go (nat_lt (next + 1) parts) refl
  where
    go : (b : Bool) → nat_lt (next + 1) parts ≡ b → left_of n (if b then blocks_at n parts (next + 1) else blocks_at n (2 * parts) 0) < n * n + (n - (parts + next))
    go true e = omega (arith, blocks-left-at n parts (next + 1))
    go false e =
        let last : parts ≤ next + 1 = grind (arith, nat_tests) in
        omega (arith, blocks-left-at n (2 * parts) 0)

-- a square falls by more than its side
pub square-falls : (m n : ℕ) → m < n → m * m + m + n ≤ n * n
square-falls m zero h = absurd (omega arith)
square-falls m (suc n) h =
    let first : m * (m + 1) ≤ m * suc n = mul-le-mul_left m (omega arith) in
    let second : suc n * m ≤ suc n * n = mul-le-mul_left (suc n) (omega arith) in
    omega (arith, first, second)

-- where a block stands
pub block-is : (n parts next : ℕ) → next < parts → 2 * parts ≤ n → (next * (n / parts) < block_end n parts next) × (block_end n parts next ≤ n)
block-is n parts next within room =
    let size : 2 ≤ n / parts = le-div 2 n parts (omega arith) room in
    let upto : n / parts * (next + 1) ≤ n / parts * parts = mul-le-mul_left (n / parts) (omega arith) in
    let all : parts * (n / parts) ≤ n = mul-div-le n parts in
    go (next + 1 == parts) (n / parts) size upto all
  where
    go : (b : Bool) (q : ℕ) → 2 ≤ q → q * (next + 1) ≤ q * parts → parts * q ≤ n → (next * q < (if b then n else next * q + q)) × ((if b then n else next * q + q) ≤ n)
    go true q size upto all = (omega arith, omega arith)
    go false q size upto all = (omega arith, omega arith)
