use Rattle.std.proofs.Common.{ℕ, ◌<◌, Any, get_or}
use Rattle.cover_marks.specs.Cover.{IsWithin}
use Rattle.cover_marks.proofs.cover.are_within_some.Given as goal

-- each so far is within some
abbrev pub invariant-loop-word : goal.invariant-loop-word
invariant-loop-word l = (k : ℕ) → k < l.word-index → Any (IsWithin (get_or l.words k 0)) l.others
