use Rattle.std.proofs.Common.{arith}
use Rattle.fo_unify.specs.Lookup.{term_of}
use Rattle.fo_unify.proofs.Reaching.{part_size}
use Rattle.fo_infer.proofs.Weights.{taken_more}
use Rattle.fo_infer.proofs.counting.+summing.Goals as goal

pub weight_all-weight-requires : goal.weight_all-weight-requires
weight_all-weight-requires t c =
    let part = part_size (term_of c.args.unifier.now) c.args.terms.now c.loop-t.t-index c.t-item.result c.loop-t-test.true c.t-item.is in
    (omega (arith, c.decreases), tt)

pub weight_all-loop-t-preserved : goal.weight_all-loop-t-preserved
weight_all-loop-t-preserved t c =
    let more = taken_more (term_of c.args.unifier.now) c.args.terms.now c.loop-t.t-index c.t-item.result c.loop-t-test.true c.t-item.is in
    omega (arith, c.weight.ensures, c.loop-t.invariant)
