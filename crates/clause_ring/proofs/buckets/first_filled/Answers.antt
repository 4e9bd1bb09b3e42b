use Rattle.std.proofs.Common.{arith}
use Rattle.clause_ring.proofs.Kept.{first-filled}
use Rattle.clause_ring.proofs.buckets.first_filled.Goals as goal

pub returns-then-not-is_empty-clause-filled : goal.returns-then-not-is_empty-clause-filled
returns-then-not-is_empty-clause-filled g c =
    first-filled c.args.buckets.now c.loop-weight.weight c.index-buckets-weight.result (omega arith) c.index-buckets-weight.is
    (λ e.
    let t = c.is_empty.ensures.1 e in
    let f = c.if-not-is_empty.true in
    cc)
    c.loop-weight.invariant.lighter
