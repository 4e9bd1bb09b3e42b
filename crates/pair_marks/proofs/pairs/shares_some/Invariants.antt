use Rattle.std.proofs.Common.{◌≡◌, ℕ, ◌<◌, Some, slice_get}
use Rattle.pair_marks.specs.declared.marks.Marks.{Marks}
use Rattle.pair_marks.specs.Sets.{AllShare}
use Rattle.pair_marks.proofs.pairs.shares_some.Given as goal

abbrev pub invariant-loop-need : goal.invariant-loop-need
invariant-loop-need l = (k : ℕ) → k < l.need-index → (n : Marks) → slice_get l.needs k ≡ Some n → AllShare n l.offers → ⊥
