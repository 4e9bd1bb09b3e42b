use Rattle.std.proofs.Common.{subst}
use Rattle.sledge_engine.specs.Goals.{about, refused}
use Rattle.sledge_engine.specs.Metis.{GoalReply, MetisReply}
use Rattle.sledge_engine.specs.inner.Fetches.{outside}
use Rattle.sledge_engine.specs.inner.Posing.{IsPosed}
use Rattle.sledge_engine.specs.inner.Shown.{metis_shown}
use Rattle.sledge_engine.proofs.Replying.{if_ok_map}
use Rattle.sledge_engine.proofs.metis.answer_metis.Goals as goal

pub returns-in-Goal : goal.returns-in-Goal
returns-in-Goal g c =
    let shelf = c.args.shelf.now in
    let o = outside (g.H.Shelf.held shelf) (g.H.Shelf.sure shelf) (g.H.Shelf.faults shelf) (g.H.Shelf.faults c.open_goal.new.shelf) in
    let line = metis_shown c.args.line in
    let t = c.in-Goal.theory in
    let goal = c.in-Goal.goal in
    let text = c.answer_goal.new.text in
    let posed = subst (IsPosed o line.theory line.goal c.open_goal.new.text) c.in-Goal.is c.in_ok-theory.ensures in
    if_ok_map c.answer_goal.result (λ status. GoalReply t goal line.facts line.budget line.shows status text) (λ status. MetisReply o line status text)
    (λ status h. about t goal status text posed.0 h) c.answer_goal.ensures

pub returns-in-Refused : goal.returns-in-Refused
returns-in-Refused g c =
    let shelf = c.args.shelf.now in
    let o = outside (g.H.Shelf.held shelf) (g.H.Shelf.sure shelf) (g.H.Shelf.faults shelf) (g.H.Shelf.faults c.open_goal.new.shelf) in
    let line = metis_shown c.args.line in
    let text = c.open_goal.new.text in
    refused c.in-Refused.status text (subst (IsPosed o line.theory line.goal text) c.in-Refused.is c.in_ok-theory.ensures)
