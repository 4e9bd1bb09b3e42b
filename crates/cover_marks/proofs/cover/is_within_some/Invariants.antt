use Rattle.std.proofs.Common.{ℕ, ◌<◌, get_or}
use Rattle.cover_marks.specs.Cover.{IsWithin}
use Rattle.cover_marks.proofs.cover.is_within_some.Given as goal

-- within none so far
abbrev pub invariant-loop-other : goal.invariant-loop-other
invariant-loop-other l = (k : ℕ) → k < l.other-index → IsWithin l.word (get_or l.words k 0) → ⊥
