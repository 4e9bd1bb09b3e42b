use Rattle.std.proofs.Common.{[], ap}
use Rattle.fo_infer.specs.Inferences.{pair_rules}
use Rattle.fo_infer.specs.inner.Places.{position_of}
use Rattle.fo_infer.proofs.Meetings.{no_inferences}
use Rattle.fo_light.specs.Light.{as_made}
use Rattle.std.proofs.Common.{map}
use Rattle.fo_light.proofs.lists.between_light.Goals as goal

pub returns-then-not-may_infer : goal.returns-then-not-may_infer
returns-then-not-may_infer c =
    let position = position_of c.args.plain in
    ([], no_inferences position c.args.p.now c.args.q.now (c.may_infer.ensures c.if-not-may_infer.true) (pair_rules c.args.p.now c.args.q.now), ap (map as_made) c.begin.ensures)
