use Rattle.std.proofs.Common.{arith}
use Rattle.fo_unify.specs.Lookup.{term_of}
use Rattle.fo_unify.proofs.Reaching.{part_size}
use Rattle.fo_infer.proofs.Weights.{taken_more, taken_within}
use Rattle.fo_infer.proofs.weighing.+weighing.Goals as goal

pub left_of_all-left_of-requires : goal.left_of_all-left_of-requires
left_of_all-left_of-requires t c =
    let part = part_size (term_of c.args.unifier.now) c.args.terms.now c.loop-t.t-index c.t-item.result c.loop-t-test.true c.t-item.is in
    (omega (arith, c.decreases), tt)

pub left_of_all-returns-in-None : goal.left_of_all-returns-in-None
left_of_all-returns-in-None t c =
    let inside = taken_within (term_of c.args.unifier.now) c.args.terms.now c.loop-t.t-index c.t-item.result c.loop-t-test.true c.t-item.is in
    omega (arith, c.in-None.ensures, c.loop-t.invariant)

pub left_of_all-loop-t-preserved : goal.left_of_all-loop-t-preserved
left_of_all-loop-t-preserved t c =
    let more = taken_more (term_of c.args.unifier.now) c.args.terms.now c.loop-t.t-index c.t-item.result c.loop-t-test.true c.t-item.is in
    omega (arith, c.in-Some.ensures, c.loop-t.invariant)
