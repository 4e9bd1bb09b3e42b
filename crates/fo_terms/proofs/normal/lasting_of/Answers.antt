use Rattle.fo_terms.specs.inner.Gathered.{lent}
use Rattle.fo_terms.proofs.Gathering.{lasting_more}
use Rattle.fo_terms.proofs.normal.lasting_of.Goals as goal

pub loop-l-preserved : goal.loop-l-preserved
loop-l-preserved c = lasting_more (lent c.loop-l.out) (lent c.keep.new.out) c.args.literals.now c.loop-l.l-index c.l-item.result c.loop-l-test.true c.l-item.is c.loop-l.invariant c.in_ok-keep.ensures
