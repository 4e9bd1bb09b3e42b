use Rattle.std.proofs.Common.{subst}
use Rattle.pair_marks.specs.Marking.{NoneShares}
use Rattle.pair_marks.proofs.Emptiness.{no_inferences}
use Rattle.pair_marks.proofs.pairs.may_infer.Goals as goal

pub returns-else-shares_some : goal.returns-else-shares_some
returns-else-shares_some c = λ told plain p q of_left of_right.
    let left = c.args.left.now in
    let right = c.args.right.now in
    no_inferences plain p q left right of_left of_right
    (subst (λ needs. NoneShares needs right.negatives) c.as_slice.ensures (c.shares_some.ensures c.if-shares_some.false))
    (subst (λ needs. NoneShares needs right.parts) c.as_slice-else-shares_some.ensures (c.shares_some-else-shares_some.ensures told))
