use Rattle.std.proofs.Common.{length}
use Rattle.tstp_read.proofs.Together as together
use Rattle.tstp_read.proofs.answer.used_in.Goals as goal

pub of_cut_fault-requires : goal.of_cut_fault-requires
of_cut_fault-requires c = together.cut_fits c.args.from (length c.args.bytes.now) c.in-Err.e c.requires c.in-Err.ensures.placed

pub returns-in-Err : goal.returns-in-Err
returns-in-Err c = rw c.of_cut_fault.ensures (together.cut_fails c.args.from c.args.bytes.now c.in-Err.e c.in-Err.ensures.refused)
