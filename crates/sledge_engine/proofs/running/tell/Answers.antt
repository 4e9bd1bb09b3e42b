use Rattle.std.proofs.Common.{◌∙◌, subst}
use Rattle.sledge_engine.specs.Reports.{race_status}
use Rattle.sledge_engine.specs.inner.Sinking.{IsPut, told_by}
use Rattle.sledge_engine.specs.inner.Trials.{report, reported, wanting}
use Rattle.sledge_engine.proofs.running.tell.Goals as goal

pub returns-in-Ok : goal.returns-in-Ok
returns-in-Ok g c =
    let out = c.args.out.now in
    let t = told_by (g.S.Sink.taken out) (g.S.Sink.taken c.put_text.new.out) (g.S.Sink.faults out) (g.S.Sink.faults c.put_text.new.out) in
    reported (subst (λ text. IsPut t text (race_status c.args.finished.now) c.put_text.result) (c.as_slice.ensures ∙ c.in-Ok.ensures.1)
    (subst (λ s. IsPut t c.as_slice.result.now s c.put_text.result) c.in-Ok.ensures.0 c.put_text.ensures))

pub returns : goal.returns
returns g c = wanting c.put_text-in-Err.ensures
