use Rattle.std.proofs.Common.{arith}
use Rattle.proof_words.proofs.Fronts.{ended}
use Rattle.proof_words.proofs.shared.common.Goals as goal

pub returns-else-at-other : goal.returns-else-at-other
returns-else-at-other c =
    let so_far = c.same.invariant.2 in
    let none = ended c.args.word.now c.args.other.now c.same.at c.if-at-other.false in
    omega arith
