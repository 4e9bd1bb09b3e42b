use Rattle.std.proofs.Common.{◌≡◌, ℕ, ◌+◌, List, Some, slice_get, length, ◌-◌}
use Rattle.fo_terms.specs.declared.literal.Literal.{Literal}
use Rattle.metis_core.proofs.raised.widen.Given as goal

abbrev pub invariant-loop-copies : goal.invariant-loop-copies
invariant-loop-copies l = (k : ℕ) (ls : List Literal) → slice_get l.copies k ≡ Some (Some ls) → slice_get l.initial.copies k ≡ Some (Some ls)

abbrev pub decreases-loop-copies : goal.decreases-loop-copies
decreases-loop-copies l = l.fn.by + 1 - length l.copies
