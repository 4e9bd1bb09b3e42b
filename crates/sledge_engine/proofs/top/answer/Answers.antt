use Rattle.std.proofs.Common.{map, string_bytes, sym, subst}
use Rattle.sledge_engine.specs.inner.Fetches.{outside}
use Rattle.sledge_engine.specs.inner.Sinking.{told_by}
use Rattle.sledge_engine.specs.Replies.{Reply, memory}
use Rattle.sledge_engine.specs.Texts.{memory_text}
use Rattle.sledge_engine.proofs.Replying.{answered_by}
use Rattle.sledge_engine.proofs.top.answer.Goals as goal

pub returns-in-Ok : goal.returns-in-Ok
returns-in-Ok g c =
    let shelf = c.args.shelf.now in
    let out = c.args.out.now in
    let words = map string_bytes c.args.words.now in
    let o = outside (g.H.Shelf.held shelf) (g.H.Shelf.sure shelf) (g.H.Shelf.faults shelf) (g.H.Shelf.faults c.answer_words.new.shelf) in
    let t = told_by (g.S.Sink.taken out) (g.S.Sink.taken c.put_text.new.out) (g.S.Sink.faults out) (g.S.Sink.faults c.put_text.new.out) in
    let reply = subst (Reply words o c.in-Ok.status) (sym c.as_slice.ensures) c.in-Ok.ensures in
    record { answered = answered_by words o t c.in-Ok.status c.put_text.result c.as_slice.result.now reply c.put_text.ensures }

pub returns : goal.returns
returns g c =
    let shelf = c.args.shelf.now in
    let out = c.args.out.now in
    let words = map string_bytes c.args.words.now in
    let o = outside (g.H.Shelf.held shelf) (g.H.Shelf.sure shelf) (g.H.Shelf.faults shelf) (g.H.Shelf.faults c.answer_words.new.shelf) in
    let t = told_by (g.S.Sink.taken out) (g.S.Sink.taken c.put_text-in-Err.new.out) (g.S.Sink.faults out) (g.S.Sink.faults c.put_text-in-Err.new.out) in
    record { answered = answered_by words o t 6 c.put_text-in-Err.result memory_text memory c.put_text-in-Err.ensures }
