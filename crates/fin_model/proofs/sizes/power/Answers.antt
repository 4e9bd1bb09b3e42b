use Rattle.std.proofs.Common.{arith}
use Rattle.fin_model.proofs.Keeping.{kept_small_power, kept_no_power}
use Rattle.fin_model.proofs.sizes.power.Goals as goal

pub returns-else-exponent-eq0 : goal.returns-else-exponent-eq0
returns-else-exponent-eq0 c = kept_small_power c.args.base c.args.exponent (omega arith) (omega arith)

pub returns-then-total-gt-GREATEST_SIZE : goal.returns-then-total-gt-GREATEST_SIZE
returns-then-total-gt-GREATEST_SIZE c = kept_no_power c.args.base c.loop-i._i c.args.exponent (omega arith) (omega arith) (omega arith)
