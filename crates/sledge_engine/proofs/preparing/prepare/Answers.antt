use Rattle.std.proofs.Common.{map, string_bytes, subst, sym}
use Rattle.sledge_engine.specs.Runs.{QuietReply, usage}
use Rattle.sledge_engine.specs.Texts.{usage_text}
use Rattle.sledge_engine.specs.inner.Fetches.{outside}
use Rattle.sledge_engine.proofs.preparing.prepare.Goals as goal

pub returns-in_ok-status-in-Err-Usage : goal.returns-in_ok-status-in-Err-Usage
returns-in_ok-status-in-Err-Usage g c =
    let shelf = c.args.shelf.now in
    let o = outside (g.H.Shelf.held shelf) (g.H.Shelf.sure shelf) (g.H.Shelf.faults shelf) (g.H.Shelf.faults shelf) in
    let words = map string_bytes c.args.words.now in
    let put = c.in_ok-status-in-Err-Usage.ensures in
    subst (λ s. QuietReply words o s c.put_usage.new.text) (sym put.0)
    (subst (QuietReply words o 2) (sym put.1) (usage (c.in-Err-Usage.ensures c.in-Err-Usage.field-0-is)))
