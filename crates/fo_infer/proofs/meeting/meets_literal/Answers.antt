use Rattle.std.proofs.Common.{◌≡◌, false, subst, sym}
use Rattle.fo_infer.specs.inner.Reading.{HeldAs}
use Rattle.fo_infer.specs.inner.Meeting.{Meet}
use Rattle.fo_infer.proofs.Meetings.{one_term}
use Rattle.fo_infer.proofs.meeting.meets_literal.Goals as goal

pub returns-in-Some : goal.returns-in-Some
returns-in-Some c = λ told u is meets.
    let t = c.in-Some.t.now in
    let same : t ≡ u = one_term c.args.l.now false t u (subst (HeldAs c.args.l.now false) c.in-Some.is c.held.ensures) is in
    let met = c.may_meet.ensures (subst (Meet c.args.s.now) (sym same) meets) in
    cc
