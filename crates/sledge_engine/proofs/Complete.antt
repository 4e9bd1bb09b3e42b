-- What a finished race doesn't miss.
use Rattle.std.proofs.Common.{ℕ, ◌≡◌, ◌≢◌, ◌∙◌, ◌+◌, ◌-◌, ◌^◌, ◌≤◌, ◌<◌, ◌⊎◌, Bool, true, false, List, [], ◌∷◌, length, min, refl, sym, ap, subst, Option, Some, None, slice_get, inl, inr, arith, if◌then◌else◌, suc, zero}
use Rattle.std.specs.Prelude.{IsTrue, IsSome, is_some}
use Rattle.std.proofs.lemmas.List.FromFn.{length-map-range_with_len}
use Rattle.std.proofs.lemmas.Bool.{false≢true}
use Rattle.hol_terms.proofs.Both.{both_false}
use Rattle.hol_terms.specs.declared.env.Env.{Env}
use Rattle.hol_kernel.specs.declared.proven.Proven.{Proven}
use Rattle.metis_core.specs.Offer.{End, found, saturated, spent}
use Rattle.race_core.specs.declared.event.Event.{Event}
use Rattle.race_core.specs.declared.event.Event.TheVariants.{Launch, NoStart, NoRoom, Reap, Settle, Skip, Expire}
use Rattle.race_core.specs.declared.outcome.Outcome.{Outcome}
use Rattle.race_core.specs.declared.outcome.Outcome.TheVariants as outcome
use Rattle.race_core.specs.declared.outcome.Verdict.{Verdict}
use Rattle.race_core.specs.declared.outcome.Verdict.TheVariants as verdict
use Rattle.race_core.specs.declared.slot.Order.{Order}
use Rattle.race_core.specs.declared.slot.SlotEnd.{SlotEnd}
use Rattle.race_core.specs.Histories.{expiries, has_expired, id_of}
use Rattle.race_core.specs.Ran.{unstarted}
use Rattle.race_core.specs.Steps.{IsLegal}
use Rattle.race_core.specs.Verdicts.{verdict_of}
use Rattle.race_outside.specs.Causes.{Rose}
use Rattle.race_board.specs.Drains.{most_bytes, AreFirst}
use Rattle.race_board.specs.Ends.{is_read}
use Rattle.race_board.proofs.Followed.{first-bytes}
use Rattle.race_laws.proofs.Unwon.{all_heard, heard_end}
use Rattle.theory_reader.specs.declared.theory.Theory.{Theory}
use Rattle.theory_reader.specs.Seen.{IsEnvOf}
use Rattle.tstp_read.specs.Used.{Answer, BadText, IsAnswer, Leaves, NoProof, NoStatus}
use Rattle.tstp_read.proofs.Unique as unique
use Rattle.slot_work.specs.Answers.{Answers, IsReplay, KeyTells, used_facts}
use Rattle.slot_work.specs.Replays.{EndsAs, Found}
use Rattle.sledge_engine.specs.declared.contest.Contest.{Contest}
use Rattle.sledge_engine.specs.declared.finished.Finished.{Finished}
use Rattle.sledge_engine.specs.Completeness.{HasFacts, IsComplete, LacksFacts, WasHeard, bad_text, no_proof, no_status, unfound}
use Rattle.sledge_engine.specs.Headline.{Launching, terms_of}
use Rattle.sledge_engine.specs.Reports.{is_lost, is_out_of_memory, race_status, some_slot, status_of, unwon_status}
use Rattle.sledge_engine.specs.Orders.{order_of, orders_for}
use Rattle.sledge_engine.proofs.Headlines.{IsRun, answers_bytes, are_right, lost_in, no_win, scheduled, wins_by}
use Rattle.sledge_engine.proofs.Searches.{one_end}

-- ---- verdicts

read_or_cancelled : (v : Verdict) → v ≢ verdict.NoStart → v ≢ verdict.TimedOut → v ≢ verdict.Lost → v ≢ verdict.NoMemory → (is_read v ≡ true) ⊎ (v ≡ verdict.Cancelled)
read_or_cancelled verdict.Proved a b c d = inl refl
read_or_cancelled verdict.NoStart a b c d = absurd (a refl)
read_or_cancelled verdict.Lost a b c d = absurd (c refl)
read_or_cancelled verdict.ReadFault a b c d = inl refl
read_or_cancelled verdict.TooLong a b c d = inl refl
read_or_cancelled verdict.NoStatus a b c d = inl refl
read_or_cancelled verdict.NoProof a b c d = inl refl
read_or_cancelled verdict.BadText a b c d = inl refl
read_or_cancelled verdict.Saturated a b c d = inl refl
read_or_cancelled verdict.Spent a b c d = inl refl
read_or_cancelled verdict.TimedOut a b c d = absurd (b refl)
read_or_cancelled verdict.Cancelled a b c d = inr refl
read_or_cancelled verdict.NoMemory a b c d = absurd (d refl)

-- ---- answers

module _ (t : Theory) (goal budget : ℕ) (bytes : List ℕ) where
  other_answer : (a b : Answer) → IsAnswer bytes a → IsAnswer bytes b → (a ≡ b → ⊥) → ⊥
  other_answer a b is other apart = apart (unique.one_answer bytes a b is other)

  same_leaves : (xs ys : List (List ℕ)) → Leaves xs ≡ Leaves ys → xs ≡ ys
  same_leaves xs ys e = cc

  found_end : (o : End) (leaves : List (List ℕ)) (env : Env) → IsAnswer bytes (Leaves leaves) → IsEnvOf t goal env → EndsAs env (used_facts t goal leaves) budget o →
      HasFacts t goal budget bytes → o ≡ found
  found_end o leaves env answer env_is ends has =
      let same : has.leaves ≡ leaves = same_leaves has.leaves leaves (unique.one_answer bytes (Leaves has.leaves) (Leaves leaves) has.answer answer) in
      one_end env (used_facts t goal leaves) budget o found ends (subst (λ ls. Found env (used_facts t goal ls) budget) same (has.found env env_is))

  -- where the bytes have facts, the answer for them is a proof
  has_proof : (o : Outcome Proven) → Answers t goal budget bytes o → verdict_of o ≢ verdict.NoMemory → HasFacts t goal budget bytes → verdict_of o ≡ verdict.Proved
  has_proof (outcome.Proved p) h full has = refl
  has_proof outcome.NoStart h full has = absurd h.from
  has_proof (outcome.Lost i) h full has = absurd h.from
  has_proof outcome.ReadFault h full has = absurd h.from
  has_proof outcome.TooLong h full has = absurd h.from
  has_proof outcome.NoStatus h full has = absurd (other_answer NoStatus (Leaves has.leaves) h has.answer (λ e. cc))
  has_proof outcome.NoProof h full has = absurd (other_answer NoProof (Leaves has.leaves) h has.answer (λ e. cc))
  has_proof (outcome.BadText at) h full has = absurd (other_answer (BadText at) (Leaves has.leaves) h has.answer (λ e. cc))
  has_proof outcome.Saturated h full has = absurd (let e = found_end saturated h.leaves h.env h.answer h.env_is h.from has in cc)
  has_proof outcome.Spent h full has = absurd (let e = found_end spent h.leaves h.env h.answer h.env_is h.from has in cc)
  has_proof outcome.TimedOut h full has = absurd h.from
  has_proof outcome.Cancelled h full has = absurd h.from
  has_proof outcome.NoMemory h full has = absurd (full refl)

  not_found : (env : Env) (facts : List ℕ) (o : End) → (o ≡ found → ⊥) → EndsAs env facts budget o → Found env facts budget → ⊥
  not_found env facts o apart ends f = apart (one_end env facts budget o found ends f)

  -- an answer that is no proof says that the bytes lack facts
  lacks : (o : Outcome Proven) → Answers t goal budget bytes o → verdict_of o ≢ verdict.NoMemory → verdict_of o ≢ verdict.Proved → LacksFacts t goal budget bytes
  lacks (outcome.Proved p) h full unproved = absurd (unproved refl)
  lacks outcome.NoStart h full unproved = absurd h.from
  lacks (outcome.Lost i) h full unproved = absurd h.from
  lacks outcome.ReadFault h full unproved = absurd h.from
  lacks outcome.TooLong h full unproved = absurd h.from
  lacks outcome.NoStatus h full unproved = no_status h
  lacks outcome.NoProof h full unproved = no_proof h
  lacks (outcome.BadText at) h full unproved = bad_text at h
  lacks outcome.Saturated h full unproved = unfound h.leaves h.env h.answer h.env_is (not_found h.env (used_facts t goal h.leaves) saturated (λ e. cc) h.from)
  lacks outcome.Spent h full unproved = unfound h.leaves h.env h.answer h.env_is (not_found h.env (used_facts t goal h.leaves) spent (λ e. cc) h.from)
  lacks outcome.TimedOut h full unproved = absurd h.from
  lacks outcome.Cancelled h full unproved = absurd h.from
  lacks outcome.NoMemory h full unproved = absurd (full refl)

-- ---- the status

none_such : (p : Outcome Proven → Bool) (ends : List (SlotEnd Proven)) (k : ℕ) (end : SlotEnd Proven) → some_slot p ends ≡ false → slice_get ends k ≡ Some end → p end.outcome ≡ false
none_such p [] k end none at = absurd cc
none_such p (x ∷ ends) zero end none at =
    let same : x ≡ end = cc in
    ap (λ (e : SlotEnd Proven). p e.outcome) (sym same) ∙ (both_false (p x.outcome) (some_slot p ends) none).0
none_such p (x ∷ ends) (suc k) end none at = none_such p ends k end (both_false (p x.outcome) (some_slot p ends) none).1 at

abbrev IsUnwon : Option ℕ → List (SlotEnd Proven) → Type 0
IsUnwon w ends = (w ≡ None) × ((some_slot is_out_of_memory ends ≡ false) × (some_slot is_lost ends ≡ false))

unwon : (w : Option ℕ) (ends : List (SlotEnd Proven)) → status_of w ends ≡ 1 → IsUnwon w ends
unwon (Some k) ends h = absurd (let e : 0 ≡ 1 = h in cc)
unwon None ends h = at (some_slot is_out_of_memory ends) (some_slot is_lost ends) refl refl
  where
    at : (a b : Bool) → some_slot is_out_of_memory ends ≡ a → some_slot is_lost ends ≡ b → IsUnwon None ends
    at true b is lost = absurd (let e : 6 ≡ 1 = sym (ap (λ x. if x then 6 else (if some_slot is_lost ends then 8 else 1)) is) ∙ h in cc)
    at false true is lost =
        absurd (let e : 8 ≡ 1 = sym (ap (λ x. if x then 6 else (if some_slot is_lost ends then 8 else 1)) is ∙ ap (λ x. if x then 8 else 1) lost) ∙ h in cc)
    at false false is lost = (refl, (is, lost))

wants_memory : (o : Outcome Proven) → verdict_of o ≡ verdict.NoMemory → is_out_of_memory o ≡ true
wants_memory (outcome.Proved p) h = absurd cc
wants_memory outcome.NoStart h = absurd cc
wants_memory (outcome.Lost i) h = absurd cc
wants_memory outcome.ReadFault h = absurd cc
wants_memory outcome.TooLong h = absurd cc
wants_memory outcome.NoStatus h = absurd cc
wants_memory outcome.NoProof h = absurd cc
wants_memory (outcome.BadText at) h = absurd cc
wants_memory outcome.Saturated h = absurd cc
wants_memory outcome.Spent h = absurd cc
wants_memory outcome.TimedOut h = absurd cc
wants_memory outcome.Cancelled h = absurd cc
wants_memory outcome.NoMemory h = refl

loses : (o : Outcome Proven) → verdict_of o ≡ verdict.Lost → is_lost o ≡ true
loses o h = let lost = lost_in o h in ap is_lost lost.1

-- ---- histories

unexpired : (es : List Event) → expiries es ≡ [] → has_expired es ≡ false
unexpired [] h = refl
unexpired (Launch k ∷ es) h = unexpired es h
unexpired (NoStart k ∷ es) h = unexpired es h
unexpired (NoRoom k ∷ es) h = unexpired es h
unexpired (Reap k ∷ es) h = unexpired es h
unexpired (Settle k v ∷ es) h = unexpired es h
unexpired (Skip k ∷ es) h = unexpired es h
unexpired (Expire m ∷ es) h = absurd cc

rises : (b l n k : ℕ) → 1 ≤ l → min (b + l) k ≤ n → min (b + 1) k ≤ n
rises b l n k some h = omega (arith, some, h)

not_risen : (xs : List ℕ) (b n : ℕ) → min (b + length xs) (2 ^ 64 - 1) ≤ n → (Rose b n → ⊥) → xs ≡ []
not_risen [] b n h still = refl
not_risen (x ∷ xs) b n h still = absurd (still (rises b (length (x ∷ xs)) n (2 ^ 64 - 1) (omega arith) h))

-- ---- the race

some_is : (w : Option ℕ) → is_some w ≡ true → IsSome w
some_is None h = absurd cc
some_is (Some k) h = refl

module _ (t : Theory) (goal : ℕ) (c : Contest) (l : Launching) (key : List ℕ) (orders : List Order) (f : Finished) (run : IsRun t goal c l key orders f)
    (tells : KeyTells t goal c.budget) where
  wins_with : (k : ℕ) (end : SlotEnd Proven) → slice_get f.slots k ≡ Some end → WasHeard end → length end.kept.bytes ≢ most_bytes → HasFacts t goal c.budget end.kept.bytes →
      is_some f.winner ≡ true
  wins_with k end at heard short has =
      elim (read_or_cancelled (verdict_of end.outcome) heard.started heard.in_time heard.unlost heard.room) [
        | inr cancelled ↦ wins_by t goal c l key orders f run tells k end at (inr cancelled)
        | inl read ↦
            elim (heard_end (Answers t goal c.budget) (terms_of t goal c l) f.until k end.kept end.outcome f.events (are_right t goal c l key orders f run tells k end at) read heard.sound) [
              | inl long ↦ absurd (short long)
              | inr answers ↦ wins_by t goal c l key orders f run tells k end at (inl (has_proof t goal c.budget end.kept.bytes end.outcome answers heard.room has))
            ]
      ]

  all_lack : ((i : ℕ) → IsTrue (l.children i).sound) → (Rose l.before.faults l.now.faults → ⊥) → expiries f.events ≡ [] → race_status f ≡ 1 →
      (k : ℕ) (end : SlotEnd Proven) → slice_get f.slots k ≡ Some end →
      (i : ℕ) × (id_of l.before.starts f.events k ≡ Some i) × AreFirst most_bytes (l.children i).whole end.kept.bytes
      × ((length end.kept.bytes ≡ most_bytes) ⊎ LacksFacts t goal c.budget end.kept.bytes)
  all_lack sound still timely status k end at =
      let none = unwon f.winner f.slots status in
      let full : verdict_of end.outcome ≢ verdict.NoMemory =
      (λ is. false≢true (sym (none_such is_out_of_memory f.slots k end none.1.0 at) ∙ wants_memory end.outcome is)) in
      let unlost : verdict_of end.outcome ≢ verdict.Lost = (λ is. false≢true (sym (none_such is_lost f.slots k end none.1.1 at) ∙ loses end.outcome is)) in
      let schedule = scheduled t goal c l key orders f run tells in
      let right = are_right t goal c l key orders f run tells k end at in
      let legal : IsLegal (length (orders_for t goal c.prover c.slices)) f.until f.events =
      subst (λ n. IsLegal n f.until f.events) (sym (length-map-range_with_len (order_of t goal c.prover) 0 c.slices)) (ap is_some schedule.made) in
      let started : unstarted f.events ≡ [] = not_risen (unstarted f.events) l.before.faults l.now.faults run.ran.faults still in
      let heard = all_heard (Answers t goal c.budget) (answers_bytes t goal c.budget) (terms_of t goal c l) f.until f.events legal (sym run.first ∙ none.0)
      (unexpired f.events timely) started sound k end.kept end.outcome right full unlost in
      let own = first-bytes (Answers t goal c.budget) (terms_of t goal c l) f.until k end.kept end.outcome f.events right heard.0 heard.1 in
      let unproved : verdict_of end.outcome ≢ verdict.Proved = (λ is. no_win f.winner none.0 (wins_by t goal c l key orders f run tells k end at (inl is))) in (
        own.0,
        own.1,
        own.2,
        elim (heard_end (Answers t goal c.budget) (terms_of t goal c l) f.until k end.kept end.outcome f.events right heard.0 heard.1) [
          | inl long ↦ inl long
          | inr answers ↦ inr (lacks t goal c.budget end.kept.bytes end.outcome answers full unproved)
        ],
      )

  pub complete : IsComplete t goal c l f
  complete = record {
    found = λ k end at heard short has. some_is f.winner (wins_with k end at heard short has);
    unfound = all_lack;
  }
