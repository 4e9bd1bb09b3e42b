use Rattle.std.proofs.Common.{ap, sym, ◌∙◌, map}
use Rattle.fo_terms.specs.Substitution.{put}
use Rattle.fo_infer.proofs.Meetings.{meet_parts, same_lengths, meet_at}
use Rattle.fo_infer.proofs.meeting.+meeting.Goals as goal

pub may_meet-returns-then-f-g : goal.may_meet-returns-then-f-g
may_meet-returns-then-f-g t c = λ h. absurd (c.if-f-g.true (meet_parts c.args.s.now c.args.t.now c.in-Fun-Fun.f c.in-Fun-Fun.g c.in-Fun-Fun.xs c.in-Fun-Fun.ys c.in-Fun-Fun.is-0 c.in-Fun-Fun.is-1 h).0)

pub may_meet-returns-else-f-g : goal.may_meet-returns-else-f-g
may_meet-returns-else-f-g t c = λ h.
    let parts = (meet_parts c.args.s.now c.args.t.now c.in-Fun-Fun.f c.in-Fun-Fun.g c.in-Fun-Fun.xs c.in-Fun-Fun.ys c.in-Fun-Fun.is-0 c.in-Fun-Fun.is-1 h).1 in
    c.all_may_meet.ensures h.0 h.1 (ap (map (put h.0)) c.as_slice.ensures ∙ parts ∙ sym (ap (map (put h.1)) c.as_slice-in-Fun-Fun.ensures))

pub all_may_meet-returns-then-ss-ts : goal.all_may_meet-returns-then-ss-ts
all_may_meet-returns-then-ss-ts t c = λ v w e. absurd (c.if-ss-ts.true (same_lengths v w c.args.ss.now c.args.ts.now e))

pub all_may_meet-returns-then-not-may_meet : goal.all_may_meet-returns-then-not-may_meet
all_may_meet-returns-then-not-may_meet t c = λ v w e.
    c.if-not-may_meet.ensures (v, w, meet_at v w c.args.ss.now c.args.ts.now c.loop-i.i c.index-ss-i.result c.index-ts-i.result c.loop-i-test.true c.index-ss-i.is c.index-ts-i.is e)
