use Rattle.std.proofs.Common.{◌∙◌, sym, subst}
use Rattle.tstp_read.specs.inner.Table.{Searches, search_of, idle, turn}
use Rattle.tstp_read.proofs.reach.reach.Goals as goal

pub todo-preserved : goal.todo-preserved
todo-preserved c = λ u more. c.todo.invariant u (turn c.pop.new.self c.in-Some.parent c.in-Some.ensures c.in_ok-visit.ensures more)

pub returns : goal.returns
returns c = c.todo.invariant (search_of c.todo.table c.todo.names c.pop.new.self)
    (subst (λ ps. Searches (search_of c.todo.table c.todo.names c.todo.todo) (search_of c.todo.table c.todo.names ps)) (c.in_default.ensures.0 ∙ sym c.in_default.ensures.1)
    (idle c.in_default.ensures.0))
