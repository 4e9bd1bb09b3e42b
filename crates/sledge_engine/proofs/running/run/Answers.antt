use Rattle.std.proofs.Common.{◌≡◌, ◌∙◌, None, ap, map, string_bytes, sym, subst}
use Rattle.sledge_engine.specs.Runs.{QuietReply, RunReply, memory, quiet}
use Rattle.sledge_engine.specs.Texts.{memory_text}
use Rattle.sledge_engine.specs.inner.Fetches.{outside}
use Rattle.sledge_engine.specs.inner.Races.{launching}
use Rattle.sledge_engine.specs.inner.Sinking.{told_by}
use Rattle.sledge_engine.specs.inner.Trials.{IsPrepared}
use Rattle.sledge_engine.proofs.Answering.{reply_by, run_answered}
use Rattle.sledge_engine.proofs.running.run.Goals as goal

pub run_entry-requires-clause-entry : goal.run_entry-requires-clause-entry
run_entry-requires-clause-entry g c κs within =
    let shelf = c.args.shelf.now in
    let o = outside (g.H.Shelf.held shelf) (g.H.Shelf.sure shelf) (g.H.Shelf.faults shelf) (g.H.Shelf.faults c.prepare.new.shelf) in
    (subst (IsPrepared (map string_bytes c.args.words.now) o c.prepare.new.text) c.in-Ok-Race.field-0-is c.in-Ok-Race.ensures).0

pub returns-in-Ok-Race : goal.returns-in-Ok-Race
returns-in-Ok-Race g c =
    let shelf = c.args.shelf.now in
    let out = c.args.out.now in
    let words = map string_bytes c.args.words.now in
    let o = outside (g.H.Shelf.held shelf) (g.H.Shelf.sure shelf) (g.H.Shelf.faults shelf) (g.H.Shelf.faults c.prepare.new.shelf) in
    let t = told_by (g.S.Sink.taken out) (g.S.Sink.taken c.run_entry.new.out) (g.S.Sink.faults out) (g.S.Sink.faults c.run_entry.new.out) in
    let done = c.run_entry.result in
    let l = launching (g.L.Launcher.children c.args.launcher) (g.L.Launcher.standing c.args.launcher) (g.L.Launcher.standing done.launcher) in
    let e = c.run_entry.ensures in
    let put = e.told in
    let asked = subst (IsPrepared words o c.prepare.new.text) c.in-Ok-Race.field-0-is c.in-Ok-Race.ensures in
    record {
      answered = run_answered words o l t done.race put.0 done.status put.1 (reply_by words o c.in-Ok-Race.entry.trial l done.race put.0 put.1 asked.1 put.2) put.3;
      children = e.children;
      untouched = e.untouched;
    }

pub returns-in-Ok-Answered : goal.returns-in-Ok-Answered
returns-in-Ok-Answered g c =
    let shelf = c.args.shelf.now in
    let out = c.args.out.now in
    let words = map string_bytes c.args.words.now in
    let o = outside (g.H.Shelf.held shelf) (g.H.Shelf.sure shelf) (g.H.Shelf.faults shelf) (g.H.Shelf.faults c.prepare.new.shelf) in
    let t = told_by (g.S.Sink.taken out) (g.S.Sink.taken c.tell_no_race.new.out) (g.S.Sink.faults out) (g.S.Sink.faults c.tell_no_race.new.out) in
    let done = c.tell_no_race.result in
    let l = launching (g.L.Launcher.children c.args.launcher) (g.L.Launcher.standing c.args.launcher) (g.L.Launcher.standing done.launcher) in
    let e = c.tell_no_race.ensures in
    let text = c.as_slice.result.now in
    let reply = subst (λ race. RunReply words o l race c.in-Ok-Answered.status text) (sym e.race)
    (quiet c.in-Ok-Answered.status text (subst (QuietReply words o c.in-Ok-Answered.status) (sym c.as_slice.ensures)
    (subst (IsPrepared words o c.prepare.new.text) c.in-Ok-Answered.field-0-is c.in-Ok-Answered.ensures))) in
    record {
      answered = run_answered words o l t done.race c.in-Ok-Answered.status done.status text reply e.told;
      children = ap g.L.Launcher.children e.launcher;
      untouched = λ none. e.launcher;
    }

pub returns : goal.returns
returns g c =
    let shelf = c.args.shelf.now in
    let out = c.args.out.now in
    let words = map string_bytes c.args.words.now in
    let o = outside (g.H.Shelf.held shelf) (g.H.Shelf.sure shelf) (g.H.Shelf.faults shelf) (g.H.Shelf.faults c.prepare.new.shelf) in
    let e = c.tell_no_race-in-Err.ensures in
    let done = c.tell_no_race-in-Err.result in
    let t = told_by (g.S.Sink.taken out) (g.S.Sink.taken c.tell_no_race-in-Err.new.out) (g.S.Sink.faults out) (g.S.Sink.faults c.tell_no_race-in-Err.new.out) in
    let l = launching (g.L.Launcher.children c.args.launcher) (g.L.Launcher.standing c.args.launcher) (g.L.Launcher.standing done.launcher) in
    let reply = subst (λ race. RunReply words o l race 6 memory_text) (sym e.race) memory in
    record {
      answered = run_answered words o l t done.race 6 done.status memory_text reply e.told;
      children = ap g.L.Launcher.children e.launcher;
      untouched = λ none. e.launcher;
    }
