use Rattle.tstp_read.specs.inner.Table.{Search, Searches, search_of, starting}
use Rattle.tstp_read.proofs.Searching.{load}
use Rattle.tstp_read.proofs.reach.reach.Given as goal

abbrev pub invariant-todo : goal.invariant-todo
invariant-todo l = (u : Search) → Searches (search_of l.table l.names l.todo) u → Searches (starting l.fn.table l.fn.todo) u

abbrev pub decreases-todo : goal.decreases-todo
decreases-todo l = load (search_of l.table l.names l.todo)
