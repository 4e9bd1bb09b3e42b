-- The stages of the minimising: what the next turn leaves out, and what stage comes behind it.
use Rattle.std.specs.Prelude.{ℕ, ◌+◌, ◌-◌, ◌*◌, ◌/◌, ◌<◌, ◌≤◌, ◌==◌, ◌&&◌, nat_lt, nat_le, min, Bool, false, if◌then◌else◌, List, [], ◌++◌, length, take, drop, slice_index}
use Rattle.fact_minimise.specs.declared.stage.Stage.{Stage}
use Rattle.fact_minimise.specs.declared.stage.Stage.TheVariants.{Blocks, Facts}
use Rattle.fact_minimise.specs.Sublists.{without}
use Rattle.fact_minimise.specs.Progress.{Progress}

-- so many facts in a row from a place on, where behind the last one the first one follows
abbrev pub ring_part : List ℕ → ℕ → ℕ → List ℕ
ring_part facts from count = take count (drop from (facts ++ facts))

-- the facts that were tried in vain since one was dropped
abbrev pub needed_of : List ℕ → Stage → List ℕ
needed_of kept (Blocks parts next) = []
needed_of kept (Facts from tried) = ring_part kept from tried

-- of n facts: a try of one fact drops it or makes one more needed, a try of a block drops it or comes to the next block
abbrev pub left_of : ℕ → Stage → ℕ
left_of n (Blocks parts next) = n * n + (n - (parts + next))
left_of n (Facts from tried) = n * n - tried

-- how far the minimising is
abbrev pub progress_of : List ℕ → Stage → Progress
progress_of kept stage = record { kept = kept; needed = needed_of kept stage; left = left_of (length kept) stage }

-- each block has two facts or more, and the ring's part is one of n facts
abbrev pub IsStageOf : ℕ → Stage → Type 0
IsStageOf n (Blocks parts next) = (next < parts) × (2 * parts ≤ n)
IsStageOf n (Facts from tried) = (from ≤ n) × (tried ≤ n)

-- each of n facts was tried since one was dropped
abbrev pub is_over : ℕ → Stage → Bool
is_over n (Blocks parts next) = false
is_over n (Facts from tried) = tried == n

-- the place of the fact that is tried next, of n facts
abbrev pub place_of : ℕ → ℕ → ℕ → ℕ
place_of n from tried = if nat_lt from (n - tried) then from + tried else from - (n - tried)

-- where a block ends: all of n facts are in one of the parts
abbrev pub block_end : ℕ → ℕ → ℕ → ℕ
block_end n parts next = if next + 1 == parts then n else next * (n / parts) + n / parts

-- the list that the next turn tries
abbrev pub shorter_of : List ℕ → Stage → List ℕ
shorter_of kept (Blocks parts next) =
    take (next * (length kept / parts)) kept ++ drop (block_end (length kept) parts next) kept
shorter_of kept (Facts from tried) = without (slice_index kept (place_of (length kept) from tried)) kept

-- blocks as long as each of them has two of n facts or more, else single facts
abbrev pub blocks_at : ℕ → ℕ → ℕ → Stage
blocks_at n parts next = if nat_lt 0 parts && nat_le parts (n / 2) then Blocks parts next else Facts 0 0

-- the next block, or behind the last one the first of twice as many
abbrev pub blocks_of : ℕ → ℕ → ℕ → Stage
blocks_of n parts next = if nat_lt next parts then blocks_at n parts next else blocks_at n (2 * parts) 0

-- where the replay didn't find the shorter list of n facts
abbrev pub stage_kept : ℕ → Stage → Stage
stage_kept n (Blocks parts next) = blocks_of n parts (next + 1)
stage_kept n (Facts from tried) = Facts from (tried + 1)

-- where it found the shorter list, which has m of n facts
abbrev pub stage_dropped : ℕ → ℕ → Stage → Stage
stage_dropped n m (Blocks parts next) = blocks_of m (parts - 1) next
stage_dropped n m (Facts from tried) = Facts (min (place_of n from tried) m) 0
