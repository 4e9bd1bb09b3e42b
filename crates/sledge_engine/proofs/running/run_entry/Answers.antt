use Rattle.std.proofs.Common.{◌≡◌, ◌∙◌, None, Some, ap, sym, subst}
use Rattle.sledge_engine.specs.Reports.{race_status}
use Rattle.sledge_engine.specs.Runs.{RaceReply, raced, unraced, untold}
use Rattle.sledge_engine.specs.Texts.{memory_text}
use Rattle.sledge_engine.specs.inner.Races.{finished_of, launching}
use Rattle.sledge_engine.specs.inner.Sinking.{told_by}
use Rattle.sledge_engine.specs.inner.Trials.{IsRaceTold, report}
use Rattle.sledge_engine.proofs.RacesTold.{told_race}
use Rattle.sledge_engine.proofs.running.run_entry.Goals as goal

pub returns-in-Ok : goal.returns-in-Ok
returns-in-Ok g c =
    let out = c.args.out.now in
    let t = told_by (g.S.Sink.taken out) (g.S.Sink.taken c.finish.new.out) (g.S.Sink.faults out) (g.S.Sink.faults c.finish.new.out) in
    let r = c.args.entry.trial in
    let done = c.in-Ok.raced in
    let f = finished_of done.events done.slots done.winner done.until in
    let children = g.L.Launcher.children c.args.launcher in
    let before = g.L.Launcher.standing c.args.launcher in
    let e = c.finish.ensures in
    record {
      told =
          subst (λ x. IsRaceTold r (launching children before (g.L.Launcher.standing x)) t c.finish.result.race c.finish.result.status) (sym e.launcher)
          (subst (λ x. IsRaceTold r (launching children before (g.L.Launcher.standing done.launcher)) t x c.finish.result.status) (sym e.race)
          (told_race r (launching children before (g.L.Launcher.standing done.launcher)) f t c.finish.result.status c.in-Ok.ensures.raced e.told));
      children = ap g.L.Launcher.children e.launcher ∙ c.in-Ok.ensures.children;
      untouched = λ none. absurd (let no : None ≡ Some f = sym none ∙ e.race in cc);
    }

pub returns : goal.returns
returns g c =
    let out = c.args.out.now in
    let t = told_by (g.S.Sink.taken out) (g.S.Sink.taken c.tell_no_race.new.out) (g.S.Sink.faults out) (g.S.Sink.faults c.tell_no_race.new.out) in
    let r = c.args.entry.trial in
    let l = launching (g.L.Launcher.children c.args.launcher) (g.L.Launcher.standing c.args.launcher) (g.L.Launcher.standing c.tell_no_race.result.launcher) in
    let e = c.tell_no_race.ensures in
    let same = e.launcher ∙ c.in-Err.ensures.back in
    let reply = subst (λ race. RaceReply r.theory r.goal r.contest l (report r) race 6 memory_text) (sym e.race) unraced in
    record {
      told = (6, memory_text, reply, e.told);
      children = ap g.L.Launcher.children same;
      untouched = λ none. same;
    }
