use Rattle.std.proofs.Common.{arith}
use Rattle.fo_cells.proofs.Lists.{push_next}
use Rattle.fo_cells.proofs.flat.FlatClause.to_clause.Goals as goal

pub loop-i-preserved : goal.loop-i-preserved
loop-i-preserved c =
    push_next c.loop-i.literals c.push.new.self c.args.self.now c.loop-i.i (record { positive = c.is_positive.result; atom = c.in_ok-to_atom.field-0 }) (omega arith) c.loop-i.invariant c.in_ok-push.ensures.ok
    (λ m there. λ i. record { positive = c.is_positive.ensures m there i; atom = c.in_ok-to_atom.ensures m there i })
