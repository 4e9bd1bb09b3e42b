use Rattle.std.proofs.Common.{◌∙◌, sym, ap}
use Rattle.tstp_read.specs.inner.Leaves.{AreEntryLeaves}
use Rattle.tstp_read.specs.inner.Table.{table_of, names_of, search_of}
use Rattle.tstp_read.proofs.Searching as searching
use Rattle.tstp_read.proofs.reach.leaves_from.Goals as goal

pub returns : goal.returns
returns c = searching.when_ordered c.in_order.result (names_of c.in_ok-names.names) c.in_order.ensures.same c.in_order.ensures.ascending (λ names same ascends e is.
    searching.leaves_at c.args.entries c.args.root c.at.result.now c.at.ensures (table_of c.in_ok-table.table) c.in_ok-todo.todo
    (c.in_ok-todo.ensures ∙ c.as_slice.ensures)
    (search_of c.reach.new.table c.in_ok-names.names c.reach.new.todo) names c.in_ok-table.ensures c.in_ok-names.ensures (sym same) ascends e is)
