use Rattle.std.proofs.Common.{sym, ◌∙◌, arith}
use Rattle.hol_kernel.proofs.Ending.{no_last, told_by_last}
use Rattle.hol_kernel.proofs.log.ends_in.Goals as goal

pub returns-then-len-eq0 : goal.returns-then-len-eq0
returns-then-len-eq0 c = no_last c.args.sequents.now _ (sym c.len.ensures ∙ c.if-len-eq0.true)

pub overflow_sub-len : goal.overflow_sub-len
overflow_sub-len c = omega arith

pub at-requires : goal.at-requires
at-requires c = omega arith

pub returns : goal.returns
returns c = told_by_last c.is_sequent.result c.args.sequents.now c.len-2.result c.at.result.now _ c.len-2.ensures c.at.ensures c.is_sequent.ensures
