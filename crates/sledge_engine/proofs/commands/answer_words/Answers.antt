use Rattle.std.proofs.Common.{map, string_bytes}
use Rattle.sledge_engine.specs.Words.{arguments}
use Rattle.sledge_engine.specs.Replies.{CommandReply, Reply, line, usage}
use Rattle.sledge_engine.specs.Texts.{usage_text}
use Rattle.sledge_engine.specs.inner.Fetches.{outside}
use Rattle.sledge_engine.proofs.Replying.{if_ok_map, reply_with}
use Rattle.sledge_engine.proofs.commands.answer_words.Goals as goal

pub returns-in-Ok : goal.returns-in-Ok
returns-in-Ok g c =
    let shelf = c.args.shelf.now in
    let o = outside (g.H.Shelf.held shelf) (g.H.Shelf.sure shelf) (g.H.Shelf.faults shelf) (g.H.Shelf.faults c.answer_line.new.shelf) in
    let words = map string_bytes c.args.words.now in
    let l = c.in-Ok.line in
    let text = c.answer_line.new.text in
    if_ok_map c.answer_line.result (λ status. CommandReply l.command l (arguments words l) o status text) (λ status. Reply words o status text)
    (λ status h. line l status text c.in-Ok.ensures h) c.answer_line.ensures

pub returns-in-Err-Usage : goal.returns-in-Err-Usage
returns-in-Err-Usage g c =
    let shelf = c.args.shelf.now in
    let o = outside (g.H.Shelf.held shelf) (g.H.Shelf.sure shelf) (g.H.Shelf.faults shelf) (g.H.Shelf.faults shelf) in
    reply_with (Reply (map string_bytes c.args.words.now) o) c.put_usage.result 2 usage_text c.put_usage.new.text
    (usage (c.in-Err-Usage.ensures c.in-Err-Usage.field-0-is)) c.put_usage.ensures
