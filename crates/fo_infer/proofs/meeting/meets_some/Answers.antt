use Rattle.std.proofs.Common.{◌≤◌, length, arith}
use Rattle.fo_infer.specs.inner.Meeting.{MeetsNone}
use Rattle.fo_infer.proofs.Meetings.{all_at, more_at}
use Rattle.fo_infer.proofs.meeting.meets_some.Goals as goal

pub loop-m-preserved : goal.loop-m-preserved
loop-m-preserved c = more_at (MeetsNone c.args.s.now) c.args.q.now c.loop-m.m-index c.m-item.result c.m-item.is c.loop-m.invariant (c.meets_literal.ensures c.if-meets_literal.false)

pub returns : goal.returns
returns c = λ told. (let over : length c.args.q.now ≤ c.loop-m.m-index = omega arith in all_at (MeetsNone c.args.s.now) c.args.q.now c.loop-m.m-index over c.loop-m.invariant)
