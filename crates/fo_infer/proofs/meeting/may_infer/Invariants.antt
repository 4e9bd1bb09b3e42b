use Rattle.std.proofs.Common.{◌≡◌, ℕ, ◌<◌, Some, slice_get}
use Rattle.fo_terms.specs.declared.literal.Literal.{Literal}
use Rattle.fo_infer.specs.inner.Meeting.{NoneMeets, LacksEquations}
use Rattle.fo_infer.proofs.meeting.may_infer.Given as goal

abbrev pub invariant-loop-l : goal.invariant-loop-l
invariant-loop-l l = (i : ℕ) → i < l.l-index → (k : Literal) → slice_get l.p.literals i ≡ Some k → LacksEquations k × ((j : ℕ) (m : Literal) → slice_get l.q.literals j ≡ Some m → NoneMeets k m)
