use Rattle.fo_terms.specs.Normal.{variables_of}
use Rattle.fo_infer.proofs.Rising.{above_more}
use Rattle.fo_infer.proofs.renaming.+rising.Goals as goal

pub above_terms-loop-t-preserved : goal.above_terms-loop-t-preserved
above_terms-loop-t-preserved t c =
    above_more variables_of c.args.floor c.loop-t.n c.in_ok-n.n c.args.terms.now c.loop-t.t-index c.t-item.result c.loop-t-test.true c.t-item.is c.loop-t.invariant c.in_ok-n.ensures
