use Rattle.std.proofs.Common.{arith}
use Rattle.fo_cells.proofs.Lists.{same_next}
use Rattle.fo_cells.proofs.flat.FlatClause.is_clause.Goals as goal

pub loop-i-preserved : goal.loop-i-preserved
loop-i-preserved c = same_next c.as_slice-literals.result.now c.args.self.now c.loop-i.i c.index-literals-i.result (omega arith) (omega arith) c.index-literals-i.is c.loop-i.invariant (λ m there. (c.is_literal.ensures m there).0 c.if-not-is_literal.false)
