use Rattle.clause_instances.proofs.Passes.{above_more}
use Rattle.clause_instances.proofs.above.above_bindings.Goals as goal

pub loop-b-preserved : goal.loop-b-preserved
loop-b-preserved c =
    above_more c.loop-b.n c.in_ok-least.least c.in_ok-n.n c.args.bindings.now c.loop-b.b-index c.b-item.result c.loop-b-test.true c.b-item.is c.loop-b.invariant c.in_ok-least.ensures c.in_ok-n.ensures
