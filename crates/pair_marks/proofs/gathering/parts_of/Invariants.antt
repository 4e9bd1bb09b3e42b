use Rattle.std.proofs.Common.{◌≡◌, ℕ, ◌<◌, Some, slice_get}
use Rattle.fo_terms.specs.declared.literal.Literal.{Literal}
use Rattle.pair_marks.specs.Marking.{HasAtomParts}
use Rattle.pair_marks.proofs.gathering.parts_of.Given as goal

abbrev pub invariant-loop-l : goal.invariant-loop-l
invariant-loop-l l = (k : ℕ) → k < l.l-index → (m : Literal) → slice_get l.literals k ≡ Some m → HasAtomParts l.plain l.all m.atom
