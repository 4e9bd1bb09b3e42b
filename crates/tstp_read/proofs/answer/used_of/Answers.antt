use Rattle.std.proofs.Common.{length}
use Rattle.tstp_read.proofs.Together as together
use Rattle.tstp_read.proofs.answer.used_of.Goals as goal

pub of_read_fault-requires : goal.of_read_fault-requires
of_read_fault-requires c = together.read_fits c.args.from (length c.args.bytes.now) c.in-Err.e c.requires.fits c.in-Err.ensures.placed

pub returns-in-Err : goal.returns-in-Err
returns-in-Err c = rw c.of_read_fault.ensures (together.read_fails c.args.from c.args.bytes.now c.args.toks.now c.in-Err.e c.in-Err.ensures.answer)

pub returns-in-Ok : goal.returns-in-Ok
returns-in-Ok c = together.both c.args.from c.args.bytes.now c.args.toks.now c.in-Ok.entries c.in-Ok.ensures.answer c.used_by.result (λ names. names) c.used_by.ensures
