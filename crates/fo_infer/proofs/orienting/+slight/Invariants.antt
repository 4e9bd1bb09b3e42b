use Rattle.std.proofs.Common.{◌≡◌, ℕ, ◌<◌, Some, slice_get}
use Rattle.fo_terms.specs.declared.term.FoTerm.{FoTerm}
use Rattle.fo_terms.specs.Normal.{variables_of}
use Rattle.fo_infer.specs.inner.Slight.{AreBelow}
use Rattle.fo_infer.proofs.orienting.+slight.Given as goal

abbrev pub invariant-all_variables_are_low-loop-t : goal.invariant-all_variables_are_low-loop-t
invariant-all_variables_are_low-loop-t l = (k : ℕ) → k < l.t-index → (t : FoTerm) → slice_get l.terms k ≡ Some t → AreBelow 8 (variables_of t)
