use Rattle.fo_terms.specs.Normal.{literal_variables}
use Rattle.fo_infer.proofs.Rising.{above_more}
use Rattle.fo_infer.proofs.renaming.above_literals.Goals as goal

pub loop-l-preserved : goal.loop-l-preserved
loop-l-preserved c =
    above_more literal_variables 0 c.loop-l.n c.in_ok-n.n c.args.literals.now c.loop-l.l-index c.l-item.result c.loop-l-test.true c.l-item.is c.loop-l.invariant c.in_ok-n.ensures
