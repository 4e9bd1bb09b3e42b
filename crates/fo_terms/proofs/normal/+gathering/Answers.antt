use Rattle.fo_terms.specs.Normal.{variables_of}
use Rattle.fo_terms.proofs.Gathering.{gather_more}
use Rattle.fo_terms.proofs.normal.+gathering.Goals as goal

pub gather_all-loop-t-preserved : goal.gather_all-loop-t-preserved
gather_all-loop-t-preserved t c =
    gather_more variables_of c.args.seen.now c.loop-t.seen c.gather.new.seen c.args.terms.now c.loop-t.t-index c.t-item.result c.loop-t-test.true c.t-item.is c.loop-t.invariant c.in_ok-gather.ensures
