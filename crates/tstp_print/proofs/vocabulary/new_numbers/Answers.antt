use Rattle.std.proofs.Common.{◌≤◌, length, arith}
use Rattle.tstp_print.proofs.FreeNumbers.{table}
use Rattle.tstp_print.proofs.vocabulary.new_numbers.Goals as goal

pub returns-then-len-count : goal.returns-then-len-count
returns-then-len-count c = table c.args.names.now c.loop-k.k c.loop-k.out c.loop-k.invariant (omega arith) (omega arith)

pub returns : goal.returns
returns c = table c.args.names.now c.loop-k.k c.loop-k.out c.loop-k.invariant (omega arith) (omega arith)
