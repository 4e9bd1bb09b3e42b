use Rattle.fol_encode.specs.Occurring.{occurring}
use Rattle.fol_encode.proofs.Gathering.{one_more}
use Rattle.fol_encode.proofs.occurring.gather_all.Goals as goal

pub loop-t-preserved : goal.loop-t-preserved
loop-t-preserved c =
    one_more (occurring c.args.sig.now c.args.table.now) c.args.terms.now c.loop-t.t-index c.t-item.result c.loop-t.out c.gather.new.out _ c.loop-t-test.true c.t-item.is c.in_ok-gather.ensures c.loop-t.invariant
