use Rattle.std.proofs.Common.{◌≡◌, sym, subst}
use Rattle.sledge_engine.specs.Reports.{drill_text, prove_text, race_status}
use Rattle.sledge_engine.specs.inner.Trials.{report_of}
use Rattle.sledge_engine.proofs.Replying.{if_ok_map}
use Rattle.sledge_engine.proofs.running.put_report.Goals as goal

pub returns-in-Prove : goal.returns-in-Prove
returns-in-Prove c =
    let r = c.args.trial.now in
    let f = c.args.finished.now in
    let text = c.put_prove_report.new.text in
    if_ok_map c.put_prove_report.result (λ status. (status ≡ race_status f) × (text ≡ prove_text c.in-Prove.shows r.theory r.goal f))
    (λ status. (status ≡ race_status f) × (text ≡ report_of r.telling r.theory r.goal f))
    (λ status h. (h.0, subst (λ k. text ≡ report_of k r.theory r.goal f) (sym c.in-Prove.is) h.1)) c.put_prove_report.ensures

pub returns-in-Drill : goal.returns-in-Drill
returns-in-Drill c =
    let r = c.args.trial.now in
    let f = c.args.finished.now in
    let text = c.put_drill_report.new.text in
    if_ok_map c.put_drill_report.result (λ status. (status ≡ race_status f) × (text ≡ drill_text c.in-Drill.facts c.as_slice.result.now r.theory r.goal f))
    (λ status. (status ≡ race_status f) × (text ≡ report_of r.telling r.theory r.goal f))
    (λ status h. (
      h.0,
      subst (λ k. text ≡ report_of k r.theory r.goal f) (sym c.in-Drill.is)
          (subst (λ counts. text ≡ drill_text c.in-Drill.facts counts r.theory r.goal f) c.as_slice.ensures h.1),
    )) c.put_drill_report.ensures
