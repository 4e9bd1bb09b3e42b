use Rattle.std.proofs.Common.{◌≡◌, ◌++◌, List, length}
use Rattle.tstp_read.specs.declared.statements.Entry.{Entry}
use Rattle.tstp_read.specs.inner.Table.{IsTable, table_of}
use Rattle.tstp_read.proofs.reach.build_table.Given as goal

abbrev pub invariant-entries : goal.invariant-entries
invariant-entries l = (done : List Entry) × (l.fn.entries ≡ l.rest ++ done) × IsTable done (table_of l.table)

abbrev pub decreases-entries : goal.decreases-entries
decreases-entries l = length l.rest
