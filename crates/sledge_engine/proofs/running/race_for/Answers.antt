use denote.Param.Send.{sendable}
use Rattle.std.proofs.Common.{◌≡◌, ◌<◌, ◌≤◌, ◌∙◌, ℕ, List, ap, length, map, subst, sym}
use Rattle.std.proofs.lemmas.List.FromFn.{length-map-range_with_len}
use Rattle.race_core.specs.Histories.{PassedOnce, first_proved}
use Rattle.race_core.specs.Ran.{Ran}
use Rattle.race_board.specs.Ends.{AreRight}
use Rattle.race_run.specs.Losses.{AreUnlost}
use Rattle.race_run.specs.Races.{IsSchedule}
use Rattle.slot_work.specs.Answers.{KeyAnswers, key_of}
use Rattle.sledge_engine.specs.Orders.{order_of, orders_for}
use Rattle.sledge_engine.specs.inner.Races.{finished_of, launching}
use Rattle.sledge_engine.specs.inner.Trials.{IsRaced}
use Rattle.sledge_engine.proofs.Complete.{complete}
use Rattle.sledge_engine.proofs.Crossing.{job_send, job_sync, proven_send, task_send}
use Rattle.sledge_engine.proofs.Headlines.{IsRun, headline}
use Rattle.sledge_engine.proofs.Replying.{if_ok_at, if_ok_by}
use Rattle.sledge_engine.proofs.running.race_for.Goals as goal

pub begin-requires-clause-visible : goal.begin-requires-clause-visible
begin-requires-clause-visible g c = c.requires.visible_are

pub run_race-requires-clause-few : goal.run_race-requires-clause-few
run_race-requires-clause-few g c κs within =
    let r = c.args.trial.now in
    let many : length c.args.orders ≡ r.contest.slices = ap length c.requires.orders ∙ length-map-range_with_len (order_of r.theory r.goal r.contest.prover) 0 r.contest.slices in
    subst (λ n. (0 < n) × (n ≤ 64)) (sym many) (c.requires.contest.some, c.requires.contest.few)

pub run_race-requires-send-W : goal.run_race-requires-send-W
run_race-requires-send-W g c κs within = search (sendable, job_send)

pub run_race-requires-sync-W : goal.run_race-requires-sync-W
run_race-requires-sync-W g c κs within = search (sendable, job_sync)

pub run_race-requires-send-W-Proof : goal.run_race-requires-send-W-Proof
run_race-requires-send-W-Proof g c κs within = search (sendable, proven_send)

pub run_race-requires-send-W-Task : goal.run_race-requires-send-W-Task
run_race-requires-send-W-Task g c κs within = search (sendable, task_send)

pub returns-in-Ok-clause-raced : goal.returns-in-Ok-clause-raced
returns-in-Ok-clause-raced g c =
    let r = c.args.trial.now in
    let orders = c.args.orders in
    let limit = r.contest.limit in
    let job = c.in-Ok.job in
    let is = c.in-Ok.ensures in
    let key = key_of job.theory job.goal job.budget in
    let result = c.run_race.result in
    let e = c.run_race.ensures in
    let children = g.L.Launcher.children c.args.launcher in
    let before = g.L.Launcher.standing c.args.launcher in
    if_ok_by result (λ done. IsRaced r (launching children before (g.L.Launcher.standing done.launcher)) (finished_of done.events done.slots done.winner done.until))
    (λ done given.
    let l = launching children before (g.L.Launcher.standing done.launcher) in
    let f = finished_of done.events done.slots done.winner done.until in
    let run : IsRun r.theory r.goal r.contest l key orders f =
    record {
      key_is = ap (λ t. key_of t job.goal job.budget) is.theory_is ∙ ap (λ n. key_of r.theory n job.budget) is.goal_is ∙ ap (λ b. key_of r.theory r.goal b) is.budget_is;
      orders_are = c.requires.orders;
      schedule = if_ok_at result (λ done. IsSchedule (length orders) done.until done.events done.slots done.winner) done given e.schedule;
      passed = if_ok_at result (λ done. (k : ℕ) → k < length orders → PassedOnce done.events k) done given e.passed;
      first = if_ok_at result (λ done. done.winner ≡ first_proved done.events) done given e.first;
      ran = if_ok_at result (λ done. Ran before (g.L.Launcher.standing done.launcher) orders limit done.until done.events) done given e.ran;
      slot_orders = if_ok_at result (λ done. map (λ end. end.order) done.slots ≡ orders) done given e.orders;
      right =
          if_ok_at result
          (λ done. AreRight (KeyAnswers key) (record { key = key; orders = orders; limit = limit; children = children; first = before }) done.until done.slots done.events)
          done given e.right;
      unlost = λ alone. if_ok_at result (λ done. AreUnlost done.slots) done given (e.unlost alone);
    } in
    record {
      headline = headline r.theory r.goal r.contest l key orders f run c.key_tells.ensures;
      complete = complete r.theory r.goal r.contest l key orders f run c.key_tells.ensures;
    })
