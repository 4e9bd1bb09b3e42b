use Rattle.hol_kernel.proofs.Ending.{told_by_conclusion, told_by_hypotheses}
use Rattle.hol_kernel.proofs.log.is_sequent.Goals as goal

pub returns-then-is_empty : goal.returns-then-is_empty
returns-then-is_empty c = told_by_conclusion c.same.result c.args.q.now c.args.concl.now (c.is_empty.ensures.0 c.if-is_empty.true) c.same.ensures

pub returns-else-is_empty : goal.returns-else-is_empty
returns-else-is_empty c = told_by_hypotheses c.is_empty.result c.args.q.now c.args.concl.now c.is_empty.ensures c.if-is_empty.false
