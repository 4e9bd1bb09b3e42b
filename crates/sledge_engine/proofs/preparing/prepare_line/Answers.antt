use Rattle.std.proofs.Common.{map, string_bytes}
use Rattle.sledge_engine.specs.Files.{Outside}
use Rattle.sledge_engine.specs.Runs.{line}
use Rattle.sledge_engine.specs.inner.Fetches.{outside}
use Rattle.sledge_engine.specs.inner.Trials.{IsPrepared}
use Rattle.sledge_engine.proofs.Asking.{unraced}
use Rattle.sledge_engine.proofs.Replying.{if_ok_map}
use Rattle.sledge_engine.proofs.preparing.prepare_line.Goals as goal

pub returns-in-Drill : goal.returns-in-Drill
returns-in-Drill g c =
    let shelf = c.args.shelf.now in
    let o = outside (g.H.Shelf.held shelf) (g.H.Shelf.sure shelf) (g.H.Shelf.faults shelf) (g.H.Shelf.faults shelf) in
    let words = map string_bytes c.args.words.now in
    let text = c.prepare_drill.new.text in
    if_ok_map c.prepare_drill.result (λ p. (o : Outside) → IsPrepared words o text p) (IsPrepared words o text) (λ p h. h o) c.prepare_drill.ensures

pub returns-in_ok-status-in_default : goal.returns-in_ok-status-in_default
returns-in_ok-status-in_default g c =
    line c.args.line.now c.in_ok-status-in_default.status c.answer_line.new.text c.requires.line (unraced c.args.line.now.command c.in_default.not-Prove c.in_default.not-Drill) c.in_ok-status-in_default.ensures
