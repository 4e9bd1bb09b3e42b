use Rattle.std.proofs.Common.{◌≡◌, ℕ, ◌<◌, Some, slice_get}
use Rattle.fo_terms.specs.declared.literal.Literal.{Literal}
use Rattle.pair_marks.specs.Marking.{HasNegative}
use Rattle.pair_marks.proofs.gathering.negatives_of.Given as goal

abbrev pub invariant-loop-l : goal.invariant-loop-l
invariant-loop-l l = (k : ℕ) → k < l.l-index → (m : Literal) → slice_get l.literals k ≡ Some m → HasNegative l.all m
