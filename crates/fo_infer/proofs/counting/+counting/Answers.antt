use Rattle.std.proofs.Common.{arith}
use Rattle.fo_unify.specs.Lookup.{term_of}
use Rattle.fo_unify.proofs.Reaching.{part_size}
use Rattle.fo_infer.proofs.Looked.{count_more}
use Rattle.fo_infer.proofs.counting.+counting.Goals as goal

pub count_all-count-requires : goal.count_all-count-requires
count_all-count-requires t c =
    let part = part_size (term_of c.args.unifier.now) c.args.terms.now c.loop-t.t-index c.t-item.result c.loop-t-test.true c.t-item.is in
    (omega (arith, c.decreases), tt)

pub count_all-loop-t-preserved : goal.count_all-loop-t-preserved
count_all-loop-t-preserved t c =
    let more = count_more (term_of c.args.unifier.now) c.args.x c.args.terms.now c.loop-t.t-index c.t-item.result c.loop-t-test.true c.t-item.is in
    omega (arith, c.count.ensures, c.loop-t.invariant)
