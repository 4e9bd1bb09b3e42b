use Rattle.std.proofs.Common.{subst, sym}
use Rattle.fo_infer.specs.Inferences.{BetweenAt, pair_rules}
use Rattle.fo_infer.specs.inner.Places.{position_of}
use Rattle.fo_infer.proofs.Meetings.{no_inferences}
use Rattle.fo_infer.proofs.pairs.between_at.Goals as goal

pub returns : goal.returns
returns c = subst (BetweenAt (position_of c.args.plain) c.args.p.now c.args.q.now) (sym c.in_ok-made.ensures) c.in_ok-found.ensures.inferences

pub returns-then-not-may_infer : goal.returns-then-not-may_infer
returns-then-not-may_infer c =
    let position = position_of c.args.plain in
    subst (BetweenAt position c.args.p.now c.args.q.now) (sym c.begin.ensures) (no_inferences position c.args.p.now c.args.q.now (c.may_infer.ensures c.if-not-may_infer.true) (pair_rules c.args.p.now c.args.q.now))
