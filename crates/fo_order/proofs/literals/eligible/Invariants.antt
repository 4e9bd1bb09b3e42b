use Rattle.std.proofs.Common.{◌≡◌, ◌≢◌, ◌<◌, ℕ, Some, slice_get}
use Rattle.fo_terms.specs.declared.literal.Literal.{Literal}
use Rattle.fo_order.specs.Eligible.{IsBelow}
use Rattle.fo_order.proofs.literals.eligible.Given as goal

-- it is below no other literal so far
abbrev pub invariant-loop-j : goal.invariant-loop-j
invariant-loop-j l = (k : ℕ) (m : Literal) → k < l.j → l.i ≢ k → slice_get l.literals k ≡ Some m → IsBelow l.chosen m.atom → ⊥
