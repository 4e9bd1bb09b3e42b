use Rattle.metis_core.proofs.Picks.{takes_old, takes_light, ascends_old, ascends_light}
use Rattle.metis_core.proofs.waiting.take.Goals as goal

pub returns-then-oldest-clause-ascends : goal.returns-then-oldest-clause-ascends
returns-then-oldest-clause-ascends g c = ascends_old c.args.ring.now c.pick_old.new.self c.requires.ascends c.pick_old.result c.pick_old.ensures.picked

pub returns-then-oldest-clause-taken : goal.returns-then-oldest-clause-taken
returns-then-oldest-clause-taken g c = takes_old c.args.ring.now c.pick_old.new.self c.requires.ascends c.args.oldest c.pick_old.result c.if-oldest.true c.pick_old.ensures.picked

pub returns-clause-ascends : goal.returns-clause-ascends
returns-clause-ascends g c = ascends_light c.args.ring.now c.pick_light.new.self c.requires.ascends c.pick_light.result c.pick_light.ensures.picked

pub returns-clause-taken : goal.returns-clause-taken
returns-clause-taken g c = takes_light c.args.ring.now c.pick_light.new.self c.requires.ascends c.args.oldest c.pick_light.result c.if-oldest.false c.pick_light.ensures.picked
