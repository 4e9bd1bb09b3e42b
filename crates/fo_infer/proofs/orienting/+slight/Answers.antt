use Rattle.std.proofs.Common.{◌≡◌, ◌≤◌, ℕ, length, Some, slice_get, subst, arith}
use Rattle.fo_terms.specs.declared.term.FoTerm.{FoTerm}
use Rattle.fo_terms.specs.Normal.{variables_of}
use Rattle.fo_infer.specs.inner.Slight.{AreBelow}
use Rattle.fo_infer.proofs.Meetings.{all_at, more_at}
use Rattle.fo_infer.proofs.Slights.{low_args}
use Rattle.fo_infer.proofs.orienting.+slight.Goals as goal

pub variables_are_low-returns-in-Fun : goal.variables_are_low-returns-in-Fun
variables_are_low-returns-in-Fun t c = λ told.
    low_args c.args.t.now c.in-Fun.field-0 c.in-Fun.args c.in-Fun.is
    (subst (λ ts. (k : ℕ) (t : FoTerm) → slice_get ts k ≡ Some t → AreBelow 8 (variables_of t)) c.as_slice.ensures (c.all_variables_are_low.ensures told))

pub all_variables_are_low-loop-t-preserved : goal.all_variables_are_low-loop-t-preserved
all_variables_are_low-loop-t-preserved t c = more_at (λ t. AreBelow 8 (variables_of t)) c.args.terms.now c.loop-t.t-index c.t-item.result c.t-item.is c.loop-t.invariant (c.variables_are_low.ensures c.if-not-variables_are_low.false)

pub all_variables_are_low-returns : goal.all_variables_are_low-returns
all_variables_are_low-returns t c = λ told. (let over : length c.args.terms.now ≤ c.loop-t.t-index = omega arith in all_at (λ t. AreBelow 8 (variables_of t)) c.args.terms.now c.loop-t.t-index over c.loop-t.invariant)
