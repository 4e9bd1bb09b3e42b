use Rattle.std.proofs.Common.{take}
use Rattle.tstp_print.specs.inner.Tables.{Holds}
use Rattle.tstp_print.proofs.vocabulary.set_of.Given as goal

abbrev pub invariant-loop-name : goal.invariant-loop-name
invariant-loop-name l = Holds l.set (take l.name-index l.names)
