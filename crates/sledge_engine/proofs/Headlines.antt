-- The headline of a finished race.
use Rattle.std.proofs.Common.{ℕ, suc, zero, ◌≡◌, ◌≢◌, ◌∙◌, ◌<◌, ◌⊎◌, Bool, true, false, List, [], ◌∷◌, map, length, refl, sym, ap, subst, Option, Some, None, slice_get, inl, inr}
use Rattle.std.specs.Prelude.{IsTrue, IsSome, is_some}
use Rattle.std.specs.List.{range_with_len}
use Rattle.std.proofs.lemmas.List.FromFn.{length-map-range_with_len}
use Rattle.hol_terms.specs.declared.env.Env.{Env}
use Rattle.hol_kernel.specs.declared.proven.Proven.{Proven}
use Rattle.race_core.specs.declared.event.Event.{Event}
use Rattle.race_core.specs.declared.outcome.Outcome.{Outcome}
use Rattle.race_core.specs.declared.outcome.Outcome.TheVariants as outcome
use Rattle.race_core.specs.declared.outcome.Verdict.{Verdict}
use Rattle.race_core.specs.declared.outcome.Verdict.TheVariants as verdict
use Rattle.race_core.specs.declared.slot.Order.{Order}
use Rattle.race_core.specs.declared.slot.SlotEnd.{SlotEnd}
use Rattle.race_core.specs.declared.slot.SlotState.TheVariants.{Settled}
use Rattle.race_core.specs.Histories.{PassedOnce, first_proved}
use Rattle.race_core.specs.Ran.{Ran}
use Rattle.race_core.specs.Verdicts.{verdict_of}
use Rattle.race_outside.specs.Works.{is_answer}
use Rattle.race_board.specs.Ends.{AreRight, Terms, is_read}
use Rattle.race_board.proofs.Followed.{first-bytes}
use Rattle.race_run.specs.Losses.{AreUnlost, IsAlone}
use Rattle.race_run.specs.Races.{IsSchedule}
use Rattle.race_run.proofs.Unlost.{not-lost}
use Rattle.race_laws.proofs.Answered.{is_answered, right_answers, right_by}
use Rattle.race_laws.proofs.Winning.{cancelled_wins, proved_wins, state_of, won_end}
use Rattle.theory_reader.specs.declared.theory.Theory.{Theory}
use Rattle.theory_reader.specs.Seen.{IsEnvOf}
use Rattle.slot_work.specs.Answers.{Answers, IsReplay, KeyAnswers, KeyTells, key_of}
use Rattle.sledge_engine.specs.declared.contest.Contest.{Contest}
use Rattle.sledge_engine.specs.declared.finished.Finished.{Finished}
use Rattle.sledge_engine.specs.Headline.{Accepts, Headline, IsReported, Launching, gave_none, terms_of}
use Rattle.sledge_engine.specs.Orders.{order_of, orders_for}

-- ---- answers

module _ (t : Theory) (goal budget : ℕ) where
  pub answers_bytes : (bytes : List ℕ) (o : Outcome Proven) → Answers t goal budget bytes o → IsTrue (is_answer o)
  answers_bytes bytes (outcome.Proved p) h = refl
  answers_bytes bytes outcome.NoStart h = absurd h.from
  answers_bytes bytes (outcome.Lost i) h = absurd h.from
  answers_bytes bytes outcome.ReadFault h = absurd h.from
  answers_bytes bytes outcome.TooLong h = absurd h.from
  answers_bytes bytes outcome.NoStatus h = refl
  answers_bytes bytes outcome.NoProof h = refl
  answers_bytes bytes (outcome.BadText at) h = refl
  answers_bytes bytes outcome.Saturated h = refl
  answers_bytes bytes outcome.Spent h = refl
  answers_bytes bytes outcome.TimedOut h = absurd h.from
  answers_bytes bytes outcome.Cancelled h = absurd h.from
  answers_bytes bytes outcome.NoMemory h = refl

  -- a proof that is accepted for bytes is one that may be reported
  reported : (bytes : List ℕ) (p : Proven) → Answers t goal budget bytes (outcome.Proved p) → (env : Env) × IsEnvOf t goal env × IsReported env budget p
  reported bytes p h =
      let proof = h.from.1 in
      (h.env, h.env_is, record { proves = proof.proves; leaves_within = proof.leaves_are; minimal = proof.minimal })

-- ---- verdicts

pub lost_in : (o : Outcome Proven) → verdict_of o ≡ verdict.Lost → (i : ℕ) × (o ≡ outcome.Lost i)
lost_in (outcome.Proved p) h = absurd cc
lost_in outcome.NoStart h = absurd cc
lost_in (outcome.Lost i) h = (i, refl)
lost_in outcome.ReadFault h = absurd cc
lost_in outcome.TooLong h = absurd cc
lost_in outcome.NoStatus h = absurd cc
lost_in outcome.NoProof h = absurd cc
lost_in (outcome.BadText at) h = absurd cc
lost_in outcome.Saturated h = absurd cc
lost_in outcome.Spent h = absurd cc
lost_in outcome.TimedOut h = absurd cc
lost_in outcome.Cancelled h = absurd cc
lost_in outcome.NoMemory h = absurd cc

none_given : (v : Verdict) → (v ≡ verdict.Proved → ⊥) → (v ≡ verdict.Cancelled → ⊥) → v ≢ verdict.NoMemory → v ≢ verdict.Lost → gave_none v ≡ true
none_given verdict.Proved unproved running full unlost = absurd (unproved refl)
none_given verdict.NoStart unproved running full unlost = refl
none_given verdict.Lost unproved running full unlost = absurd (unlost refl)
none_given verdict.ReadFault unproved running full unlost = refl
none_given verdict.TooLong unproved running full unlost = refl
none_given verdict.NoStatus unproved running full unlost = refl
none_given verdict.NoProof unproved running full unlost = refl
none_given verdict.BadText unproved running full unlost = refl
none_given verdict.Saturated unproved running full unlost = refl
none_given verdict.Spent unproved running full unlost = refl
none_given verdict.TimedOut unproved running full unlost = refl
none_given verdict.Cancelled unproved running full unlost = absurd (running refl)
none_given verdict.NoMemory unproved running full unlost = absurd (full refl)

unlost_at : (ends : List (SlotEnd Proven)) (k : ℕ) (end : SlotEnd Proven) → AreUnlost ends → slice_get ends k ≡ Some end → end.kept.stray ≡ None
unlost_at [] k end all at = absurd cc
unlost_at (x ∷ ends) zero end all at = let same : x ≡ end = cc in subst (λ (e : SlotEnd Proven). e.kept.stray ≡ None) same all.0
unlost_at (x ∷ ends) (suc k) end all at = unlost_at ends k end all.1 at

pub no_win : (w : Option ℕ) → w ≡ None → is_some w ≡ true → ⊥
no_win None h e = absurd cc
no_win (Some k) h e = absurd cc

-- ---- the race

-- what is known of a race for a goal that was run
pub record IsRun (t : Theory) (goal : ℕ) (c : Contest) (l : Launching) (key : List ℕ) (orders : List Order) (f : Finished) : Type 0 where
  pub key_is : key ≡ key_of t goal c.budget
  pub orders_are : orders ≡ orders_for t goal c.prover c.slices
  pub schedule : IsSchedule (length orders) f.until f.events f.slots f.winner
  pub passed : (k : ℕ) → k < length orders → PassedOnce f.events k
  pub first : f.winner ≡ first_proved f.events
  pub ran : Ran l.before l.now orders c.limit f.until f.events
  pub slot_orders : map (λ end. end.order) f.slots ≡ orders
  pub right : AreRight (KeyAnswers key) (record { key = key; orders = orders; limit = c.limit; children = l.children; first = l.before }) f.until f.slots f.events
  pub unlost : IsAlone (length orders) c.workers c.limit → AreUnlost f.slots

module _ (t : Theory) (goal : ℕ) (c : Contest) (l : Launching) (key : List ℕ) (orders : List Order) (f : Finished) (run : IsRun t goal c l key orders f)
    (tells : KeyTells t goal c.budget) where
  as_many : length orders ≡ c.slices
  as_many = ap length run.orders_are ∙ length-map-range_with_len (order_of t goal c.prover) 0 c.slices

  answered : (bytes : List ℕ) (o : Outcome Proven) → KeyAnswers key bytes o → Answers t goal c.budget bytes o
  answered bytes o h = tells bytes o (subst (λ k. KeyAnswers k bytes o) run.key_is h)

  pub are_right : AreRight (Answers t goal c.budget) (terms_of t goal c l) f.until f.slots f.events
  are_right =
      subst (λ os. AreRight (Answers t goal c.budget) (record { key = []; orders = os; limit = c.limit; children = l.children; first = l.before }) f.until f.slots f.events)
      run.orders_are
      (right_by (KeyAnswers key) (Answers t goal c.budget) answered (record { key = key; orders = orders; limit = c.limit; children = l.children; first = l.before })
      f.until f.slots f.events run.right)

  pub scheduled : IsSchedule c.slices f.until f.events f.slots f.winner
  scheduled = subst (λ n. IsSchedule n f.until f.events f.slots f.winner) as_many run.schedule

  proof_of : (k : ℕ) → f.winner ≡ Some k → (env : Env) × (p : Proven) × IsEnvOf t goal env × Accepts f.slots k p × IsReported env c.budget p
  proof_of k won =
      let w = won_end c.slices f.until f.events scheduled.race f.slots k scheduled.made scheduled.settled (scheduled.won ∙ won) in
      let right = are_right k w.end w.at in
      let answers = right_answers (Answers t goal c.budget) (terms_of t goal c l) f.until k w.end.kept w.end.outcome f.events right (ap is_answered w.is) in
      let r = reported t goal c.budget w.end.kept.bytes w.proof (subst (Answers t goal c.budget w.end.kept.bytes) w.is answers) in
      (r.0, w.proof, r.1, record { end = w.end; at = w.at; is = w.is }, r.2)

  pub wins_by : (k : ℕ) (end : SlotEnd Proven) → slice_get f.slots k ≡ Some end → (verdict_of end.outcome ≡ verdict.Proved) ⊎ (verdict_of end.outcome ≡ verdict.Cancelled) →
      is_some f.winner ≡ true
  wins_by k end at (inl is) =
      ap is_some run.first
      ∙ proved_wins c.slices f.until f.events scheduled.race k scheduled.made (state_of scheduled.race.slots f.slots k end scheduled.settled at ∙ ap (λ v. Some (Settled v)) is)
  wins_by k end at (inr is) =
      ap is_some run.first
      ∙ cancelled_wins c.slices f.until f.events scheduled.race k scheduled.made (state_of scheduled.race.slots f.slots k end scheduled.settled at ∙ ap (λ v. Some (Settled v)) is)

  pub headline : Headline t goal c l f
  headline = record {
    schedule = scheduled;
    right = are_right;
    heard = λ k end at read sound.
        first-bytes (Answers t goal c.budget) (terms_of t goal c l) f.until k end.kept end.outcome f.events (are_right k end at) read sound;
    proof = proof_of;
    first = run.first;
    unproved = λ none k end at full unlost.
        none_given (verdict_of end.outcome) (λ is. no_win f.winner none (wins_by k end at (inl is))) (λ is. no_win f.winner none (wins_by k end at (inr is))) full unlost;
    unlost = λ alone k end at lost.
        (let own = unlost_at f.slots k end (run.unlost (subst (λ n. IsAlone n c.workers c.limit) (sym as_many) alone)) at in
        let stray = lost_in end.outcome lost in
        not-lost (Answers t goal c.budget) (answers_bytes t goal c.budget) (terms_of t goal c l) f.until k end.kept end.outcome f.events (are_right k end at) own stray.0 stray.1);
    passed = λ k within. run.passed k (subst (λ n. k < n) (sym as_many) within);
    ran = subst (λ os. Ran l.before l.now os c.limit f.until f.events) run.orders_are run.ran;
    orders = run.slot_orders ∙ run.orders_are;
  }
