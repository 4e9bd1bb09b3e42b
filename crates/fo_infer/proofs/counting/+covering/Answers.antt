use Rattle.std.proofs.Common.{arith}
use Rattle.fo_unify.specs.Lookup.{term_of}
use Rattle.fo_unify.proofs.Reaching.{part_size}
use Rattle.fo_infer.proofs.counting.+covering.Goals as goal

pub covered_by_all-covered_by-requires : goal.covered_by_all-covered_by-requires
covered_by_all-covered_by-requires t c =
    let part = part_size (term_of c.args.unifier.now) c.args.us.now c.loop-u.u-index c.u-item.result c.loop-u-test.true c.u-item.is in
    (omega (arith, c.decreases), tt)
