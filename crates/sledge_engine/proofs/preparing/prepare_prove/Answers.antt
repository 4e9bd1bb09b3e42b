use Rattle.std.proofs.Common.{◌≡◌, ◌∙◌, ap, map, string_bytes, subst}
use Rattle.sledge_engine.specs.Words.{arguments, goal_line}
use Rattle.sledge_engine.specs.inner.Fetches.{outside}
use Rattle.sledge_engine.specs.inner.Posing.{IsPosed}
use Rattle.sledge_engine.specs.inner.Shown.{goal_shown}
use Rattle.sledge_engine.proofs.Asking.{asks_to_prove, no_goal_to_prove}
use Rattle.sledge_engine.proofs.Contests.{proves_within}
use Rattle.sledge_engine.proofs.preparing.prepare_prove.Goals as goal

pub enter_prove-requires-clause-contest : goal.enter_prove-requires-clause-contest
enter_prove-requires-clause-contest g c κs within = proves_within (map string_bytes c.args.words.now) c.args.line.now c.requires.line

pub returns-in-Goal : goal.returns-in-Goal
returns-in-Goal g c =
    let shelf = c.args.shelf.now in
    let o = outside (g.H.Shelf.held shelf) (g.H.Shelf.sure shelf) (g.H.Shelf.faults shelf) (g.H.Shelf.faults c.open_goal.new.shelf) in
    let words = map string_bytes c.args.words.now in
    let line = c.args.line.now in
    let asked : goal_shown c.goal_line-asked.result ≡ goal_line (arguments words line) =
    c.goal_line-asked.ensures ∙ ap goal_line (ap (map (λ w. w.now)) c.as_slice.ensures.value ∙ c.in_ok-arguments.ensures) in
    let posed = subst (IsPosed o c.goal_line-asked.result.theory.now c.goal_line-asked.result.goal.now c.open_goal.new.text) c.in-Goal.is c.in_ok-theory.ensures in
    asks_to_prove words o c.open_goal.new.text line (goal_shown c.goal_line-asked.result) c.in-Goal.theory c.in-Goal.goal c.in_ok-entry-in-Goal.entry c.requires.line c.requires.command asked
    posed.0 c.in_ok-entry-in-Goal.ensures

pub returns : goal.returns
returns g c =
    let shelf = c.args.shelf.now in
    let o = outside (g.H.Shelf.held shelf) (g.H.Shelf.sure shelf) (g.H.Shelf.faults shelf) (g.H.Shelf.faults c.open_goal.new.shelf) in
    let words = map string_bytes c.args.words.now in
    let line = c.args.line.now in
    let asked : goal_shown c.goal_line-asked.result ≡ goal_line (arguments words line) =
    c.goal_line-asked.ensures ∙ ap goal_line (ap (map (λ w. w.now)) c.as_slice.ensures.value ∙ c.in_ok-arguments.ensures) in
    no_goal_to_prove words o c.open_goal.new.text line (goal_shown c.goal_line-asked.result) c.in-Refused.status c.requires.line c.requires.command asked
    (subst (IsPosed o c.goal_line-asked.result.theory.now c.goal_line-asked.result.goal.now c.open_goal.new.text) c.in-Refused.is c.in_ok-theory.ensures)
