use Rattle.std.proofs.Common.{◌≡◌, true, subst}
use Rattle.fo_infer.specs.inner.Reading.{HeldAs}
use Rattle.fo_infer.specs.inner.Meeting.{MeetsNone}
use Rattle.fo_infer.proofs.Meetings.{one_term}
use Rattle.fo_infer.proofs.meeting.may_resolve.Goals as goal

pub returns-in-Some : goal.returns-in-Some
returns-in-Some c = λ told j m at u is.
    let s = c.in-Some.s.now in
    let same : s ≡ u = one_term c.args.l.now true s u (subst (HeldAs c.args.l.now true) c.in-Some.is c.held.ensures) is in
    subst (λ z. MeetsNone z m) same (c.meets_some.ensures told j m at)
