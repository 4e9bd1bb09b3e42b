use Rattle.std.proofs.Common.{arith, ◌∙◌}
use Rattle.lambda_lift.proofs.Made.{bound_is}
use Rattle.lambda_lift.proofs.Occurring.{marked_bound}
use Rattle.lambda_lift.proofs.closing.+mark.Goals as goal

pub returns-then-v-len : goal.returns-then-v-len
returns-then-v-len t c = rw (c.in-Bound.is ∙ bound_is c.in-Bound.i, c.set.ensures) (marked_bound c.in-Bound.i c.args.depth c.args.marks.now (omega arith) (omega arith))
