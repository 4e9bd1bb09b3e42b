use Rattle.std.proofs.Common.{◌≡◌, ◌≤◌, ℕ, length, get_or, Some, slice_get, subst}
use Rattle.fo_terms.specs.declared.literal.Literal.{Literal}
use Rattle.fo_infer.specs.inner.Meeting.{NoneMeets, LacksEquations}
use Rattle.fo_infer.proofs.Meetings.{all_at, more_at}
use Rattle.fo_infer.proofs.meeting.may_infer.Goals as goal

pub loop-l-preserved : goal.loop-l-preserved
loop-l-preserved c =
    more_at (λ k. LacksEquations k × ((j : ℕ) (m : Literal) → slice_get c.args.q.now.literals j ≡ Some m → NoneMeets k m)) c.args.p.now.literals c.loop-l.l-index c.l-item.result (subst (λ ls. c.l-item.result ≡ get_or ls c.loop-l.l-index c.l-item.result) c.as_slice-l-items.ensures c.l-item.is) c.loop-l.invariant (
      c.is_equation.ensures c.if-is_equation.false,
      subst (λ ls. (j : ℕ) (m : Literal) → slice_get ls j ≡ Some m → NoneMeets c.l-item.result m) c.as_slice.ensures (c.may_resolve.ensures c.if-may_resolve.false),
    )

pub returns : goal.returns
returns c = λ told.
    let over : length c.args.p.now.literals ≤ c.loop-l.l-index = subst (λ ls. length ls ≤ c.loop-l.l-index) c.as_slice-l-items.ensures c.loop-l-test.false in
    all_at (λ k. LacksEquations k × ((j : ℕ) (m : Literal) → slice_get c.args.q.now.literals j ≡ Some m → NoneMeets k m)) c.args.p.now.literals c.loop-l.l-index over c.loop-l.invariant
