use Rattle.std.proofs.Common.{◌≡◌, ℕ, ◌<◌, Some, slice_get}
use Rattle.fo_terms.specs.declared.literal.Literal.{Literal}
use Rattle.fo_infer.specs.inner.Meeting.{MeetsNone}
use Rattle.fo_infer.proofs.meeting.meets_some.Given as goal

abbrev pub invariant-loop-m : goal.invariant-loop-m
invariant-loop-m l = (j : ℕ) → j < l.m-index → (m : Literal) → slice_get l.q j ≡ Some m → MeetsNone l.s m
