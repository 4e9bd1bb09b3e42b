-- What a reap, a verdict and a skip keep of a board.
use Rattle.std.proofs.Common.{◌≡◌, ℕ, ◌+◌, ◌≤◌, Bool, true, false, List, [], ◌∷◌, ◌++◌, length, map, refl, sym, ap, ◌∙◌, subst, arith, Option, Some, None, inl, inr, ◌⊎◌, append-nil}
use Rattle.std.specs.Prelude.{slice_get, is_some, is_none, if◌then◌else◌, not, ◌&&◌}
use Rattle.std.specs.List.{filter_map, cons_option}
use Rattle.std.proofs.lemmas.Option.{slice_get_within}
use Rattle.race_core.specs.declared.race.Race.{Race}
use Rattle.race_core.specs.declared.slot.Kept.{Kept}
use Rattle.race_core.specs.declared.slot.SlotEnd.{SlotEnd}
use Rattle.race_core.specs.declared.slot.SlotState.{SlotState}
use Rattle.race_core.specs.declared.slot.SlotState.TheVariants.{Waiting, Running, Overdue, Reaped, ReapedLate, Settled}
use Rattle.race_core.specs.declared.outcome.Verdict.TheVariants as verdict
use Rattle.race_core.specs.declared.outcome.Outcome.{Outcome}
use Rattle.race_core.specs.declared.event.Event.{Event}
use Rattle.race_core.specs.declared.event.Event.TheVariants.{Reap, Settle, Skip}
use Rattle.race_core.specs.Steps.{step_of, skipped, reaped, with_slot, with_verdict, is_open}
use Rattle.race_core.specs.Verdicts.{verdict_of}
use Rattle.race_core.specs.Histories.{id_of, launched}
use Rattle.race_core.specs.Standings.{Standing, is_listed}
use Rattle.race_core.specs.Ran.{killed_by, ids_of}
use Rattle.race_core.proofs.Ids.{id-stays, ids-stay, place-unique}
use Rattle.race_core.proofs.Invariant.{Moves, moved-here}
use Rattle.race_core.proofs.Slots.{get-set-same}
use Rattle.race_core.proofs.Kills.{unwon}
use Rattle.race_core.proofs.Moved.{reap-moves, settle-moves, skip-moves}
use Rattle.race_core.proofs.Timed.{timed-is}
use Rattle.race_outside.specs.Launchers.{Waits}
use Rattle.race_board.specs.Ends.{Terms, is_up, Keeps, IsReaped, MayEnd, skipped_end}
use Rattle.race_board.specs.Boards.{View, up}
use Rattle.race_board.specs.Calls.{changed, with_outcome, with_kept, KillsAll, IsUp}
use Rattle.race_board.specs.inner.Kept.{id_in, IsEnd, IsBoard, to_come}
use Rattle.race_board.proofs.Lists.{changed-same, changed-other, changed-map, unlisted-push}
use Rattle.race_board.proofs.Ends.{IsReady}
use Rattle.race_board.proofs.Grown.{grows, safe-moves}
use Rattle.race_board.proofs.Moving.{history-is, adds-other, settles}

-- two slots of a history with one id are one
pub one-id : (first : ℕ) (es : List Event) (j k i : ℕ) → id_of first es j ≡ Some i → id_of first es k ≡ Some i → j ≡ k
one-id first es j k i a b = place-unique first (launched es) j k i a b

-- a slot is reaped
reap-from : {P : Type 0} (answers : List ℕ → Outcome P → Type 0) (terms : Terms) (v : View P) (next : Race) (ends : List (SlotEnd P)) (now : Standing) (es : List Event) (ids : List (Option ℕ)) (total sum capacity room k id : ℕ) (kept : Kept) (s t : SlotState)
    → IsBoard answers terms v ids total capacity → Moves (Reap k) k s t v.race next → es ≡ v.events ++ Reap k ∷ [] → step_of v.race (Reap k) ≡ Some next
    → id_of terms.first.starts v.events k ≡ Some id → Waits id v.launcher now → ends ≡ changed (with_kept kept) k v.ends
    → ((end : SlotEnd P) → IsEnd answers terms v.race.until k t (with_kept kept end) (v.events ++ Reap k ∷ []))
    → is_up t ≡ false → up t ≡ 0 → up s ≡ 1 → to_come t + 1 ≤ to_come s → sum + 1 ≡ total → room ≡ capacity
    → IsBoard answers terms (record { events = es; race = next; ends = ends; launcher = now }) ids sum room
reap-from answers terms v next ends now es ids total sum capacity room k id kept s t b m events step own wait put end_is down none one fewer count same =
    let stays : (j : ℕ) → id_of terms.first.starts (v.events ++ Reap k ∷ []) j ≡ id_of terms.first.starts v.events j = λ j. id-stays terms.first.starts v.events (Reap k) j refl in
    let mine : id_of terms.first.starts (v.events ++ Reap k ∷ []) k ≡ Some id = stays k ∙ own in
    grows answers terms v next ends now es ids ids total sum capacity room (Reap k) k s t b events step m
    (adds-other terms.first v.launcher now terms.orders v.events v.race (Reap k) refl refl wait.starts wait.orders
    (wait.waits ∙ ap (λ o. v.launcher.waits ++ cons_option o []) (sym mine)) (wait.kills ∙ sym (append-nil v.launcher.kills)) (omega (arith, wait.faults)) (omega (arith, wait.last)))
    (ap (map (λ end. end.order)) put ∙ changed-map (λ end. end.order) (with_kept kept) k v.ends (λ x. refl))
    (λ j apart. ap (λ l. slice_get l j) put ∙ changed-other (with_kept kept) k j v.ends apart)
    (λ end held. (let was = changed-same (with_kept kept) k v.ends end (ap (λ l. slice_get l k) (sym put) ∙ held) in
    let E : SlotEnd _ → Type 0 = λ x. IsEnd answers terms v.race.until k t x (v.events ++ Reap k ∷ []) in
    subst E (sym was.1.1) (end_is was.0)))
    refl
    (λ j. b.known j ∙ sym (stays j))
    (safe-moves (id_of terms.first.starts v.events) (id_of terms.first.starts (v.events ++ Reap k ∷ [])) v.race next v.launcher now (Reap k) k s t b.safe m down stays wait.starts
    (λ j i apart theirs un. ap (is_listed i) wait.waits ∙ unlisted-push i id v.launcher.waits (λ both. apart (one-id terms.first.starts v.events j k i theirs (own ∙ ap Some both))) un) (λ none. wait.kills))
    (omega (arith, none, one, count)) fewer same

pub reap-keeps : {P : Type 0} (answers : List ℕ → Outcome P → Type 0) (terms : Terms) (v : View P) (next : Race) (ends : List (SlotEnd P)) (now : Standing) (es : List Event) (ids : List (Option ℕ)) (total sum capacity room k id : ℕ) (kept : Kept)
    → IsBoard answers terms v ids total capacity → es ≡ v.events ++ Reap k ∷ [] → step_of v.race (Reap k) ≡ Some next
    → id_of terms.first.starts v.events k ≡ Some id → Waits id v.launcher now → ends ≡ changed (with_kept kept) k v.ends → Keeps terms v.race.until v.events k kept → sum + 1 ≡ total → room ≡ capacity
    → IsBoard answers terms (record { events = es; race = next; ends = ends; launcher = now }) ids sum room
reap-keeps answers terms v next ends now es ids total sum capacity room k id kept b events step own wait put keeps count same =
    let timed = timed-is (length terms.orders) v.race.until v.events v.race b.legal in
    elim (reap-moves v.race next k step) [
      | inl m ↦ reap-from answers terms v next ends now es ids total sum capacity room k id kept Running Reaped b m events step own wait put (λ end. (record { before = v.events; behind = []; is = refl }, timed.stands k Running m.at, keeps)) refl refl refl (omega arith) count same
      | inr m ↦ reap-from answers terms v next ends now es ids total sum capacity room k id kept Overdue ReapedLate b m events step own wait put (λ end. (record { before = v.events; behind = []; is = refl }, timed.stands k Overdue m.at, keeps)) refl refl refl (omega arith) count same
    ]

-- the step of a reap
pub reap-steps : (r : Race) (k : ℕ) (o : Option SlotState) → slice_get r.slots k ≡ o → IsUp o → (next : Race) × (step_of r (Reap k) ≡ Some next)
reap-steps r k None at h = absurd h
reap-steps r k (Some Waiting) at h = cc
reap-steps r k (Some Running) at h = (with_slot r k Reaped, ap (reaped r k) at)
reap-steps r k (Some Overdue) at h = (with_slot r k ReapedLate, ap (reaped r k) at)
reap-steps r k (Some Reaped) at h = cc
reap-steps r k (Some ReapedLate) at h = cc
reap-steps r k (Some (Settled d)) at h = cc

-- the kills, by the ids of the history
pub ids-are : (first : ℕ) (es : List Event) (ids : List (Option ℕ)) (ks : List ℕ) → ((k : ℕ) → id_in ids k ≡ id_of first es k) → filter_map (id_in ids) ks ≡ ids_of first es ks
ids-are first es ids ks known = λ i. filter_map (λ k. known k i) ks

nobody : (f : ℕ → Option ℕ) (ks kills now : List ℕ) → ks ≡ [] → now ≡ kills ++ filter_map f ks → now ≡ kills
nobody f ks kills now none is = is ∙ ap (λ l. kills ++ filter_map f l) none ∙ append-nil kills

settle-from : {P : Type 0} (answers : List ℕ → Outcome P → Type 0) (terms : Terms) (v : View P) (next : Race) (ends : List (SlotEnd P)) (now : Standing) (es : List Event) (ids : List (Option ℕ)) (total capacity room k : ℕ) (o : Outcome P) (s : SlotState) (late : Bool)
    → IsBoard answers terms v ids total capacity → Moves (Settle k (verdict_of o)) k s (Settled (verdict_of o)) v.race next → IsReady answers v.race k v.ends o s late
    → ((end : SlotEnd P) → slice_get v.ends k ≡ Some end → IsReaped terms v.race.until k late end.kept v.events)
    → es ≡ v.events ++ Settle k (verdict_of o) ∷ [] → step_of v.race (Settle k (verdict_of o)) ≡ Some next
    → KillsAll (filter_map (id_in ids) (killed_by v.race (Settle k (verdict_of o)))) v.launcher now → ends ≡ changed (with_outcome o) k v.ends → up s ≡ 0 → 1 ≤ to_come s → room ≡ capacity
    → IsBoard answers terms (record { events = es; race = next; ends = ends; launcher = now }) ids total room
settle-from answers terms v next ends now es ids total capacity room k o s late b m ready reaped events step kill put down more same =
    let e : Event = Settle k (verdict_of o) in
    let is : next ≡ with_verdict v.race k (verdict_of o) = (let both : Some next ≡ Some (with_verdict v.race k (verdict_of o)) = sym step ∙ ready.step in cc) in
    settles answers terms v next ends now es ids total capacity room e k s (verdict_of o) o b events step m refl
    (adds-other terms.first v.launcher now terms.orders v.events v.race e refl refl kill.starts kill.orders (kill.waits ∙ sym (append-nil v.launcher.waits))
    (kill.kills ∙ ap (λ l. v.launcher.kills ++ l) (ids-are terms.first.starts v.events ids (killed_by v.race e) b.known ∙ sym (ids-stay terms.first.starts v.events e (killed_by v.race e) refl))) (omega (arith, kill.faults)) (omega (arith, kill.last)))
    put refl
    (λ end held. (let same_end : ready.end ≡ end = (let both : Some ready.end ≡ Some end = sym ready.held ∙ held in cc) in
    let M : SlotEnd _ → Type 0 = λ x. MayEnd answers late (is_some v.race.winner) x.kept o in
    let W : Bool → Type 0 = λ w. MayEnd answers late w end.kept o in
    inr (inr (inr (record { before = v.events; behind = []; is = refl }, late, reaped end held, subst W (ap is_some (history-is answers terms v ids total capacity b).winner) (subst M same_end ready.may))))))
    kill.starts kill.waits
    (λ none. nobody (id_in ids) (killed_by v.race e) v.launcher.kills now.kills (unwon v.race k (verdict_of o) (sym (ap (λ (x : Race). x.winner) is) ∙ none)) kill.kills)
    down more same

-- a slot is settled
pub settle-keeps : {P : Type 0} (answers : List ℕ → Outcome P → Type 0) (terms : Terms) (v : View P) (next : Race) (ends : List (SlotEnd P)) (now : Standing) (es : List Event) (ids : List (Option ℕ)) (total capacity room k : ℕ) (o : Outcome P)
    → IsBoard answers terms v ids total capacity → IsReady answers v.race k v.ends o Reaped false ⊎ IsReady answers v.race k v.ends o ReapedLate true
    → es ≡ v.events ++ Settle k (verdict_of o) ∷ [] → step_of v.race (Settle k (verdict_of o)) ≡ Some next
    → KillsAll (filter_map (id_in ids) (killed_by v.race (Settle k (verdict_of o)))) v.launcher now → ends ≡ changed (with_outcome o) k v.ends → room ≡ capacity
    → IsBoard answers terms (record { events = es; race = next; ends = ends; launcher = now }) ids total room
settle-keeps answers terms v next ends now es ids total capacity room k o b ready events step kill put same =
    elim (settle-moves v.race next k (verdict_of o) step) [
      | inl m ↦
          elim ready [
            | inl r ↦ settle-from answers terms v next ends now es ids total capacity room k o Reaped false b m r (λ end held. b.ends k Reaped end m.at held) events step kill put refl (omega arith) same
            | inr r ↦ (let both : Some Reaped ≡ Some ReapedLate = sym m.at ∙ r.at in cc)
          ]
      | inr m ↦
          elim ready [
            | inl r ↦ (let both : Some ReapedLate ≡ Some Reaped = sym m.at ∙ r.at in cc)
            | inr r ↦ settle-from answers terms v next ends now es ids total capacity room k o ReapedLate true b m r (λ end held. b.ends k ReapedLate end m.at held) events step kill put refl (omega arith) same
          ]
    ]

-- a waiting slot is skipped where the race isn't open any more
skip-in : (r : Race) (k : ℕ) (w : Option ℕ) (late : Bool) → (is_none w && not late) ≡ false → (if is_some w then Some (with_slot r k (Settled verdict.Cancelled)) else if late then Some (with_slot r k (Settled verdict.TimedOut)) else None) ≡ Some (with_slot r k (Settled (verdict_of {P = ℕ} (skipped_end (is_some w)))))
skip-in r k (Some x) late over = refl
skip-in r k None true over = refl
skip-in r k None false over = cc

same-verdict : (P Q : Type 0) (w : Bool) → verdict_of {P = P} (skipped_end w) ≡ verdict_of {P = Q} (skipped_end w)
same-verdict P Q true = refl
same-verdict P Q false = refl

pub skip-steps : (r : Race) (k : ℕ) → slice_get r.slots k ≡ Some Waiting → is_open r ≡ false → step_of r (Skip k) ≡ Some (with_slot r k (Settled (verdict_of {P = ℕ} (skipped_end (is_some r.winner)))))
skip-steps r k at over = ap (skipped r k) at ∙ skip-in r k r.winner r.late over

skip-moved : (r next : Race) (k : ℕ) → slice_get r.slots k ≡ Some Waiting → is_open r ≡ false → step_of r (Skip k) ≡ Some next → Moves (Skip k) k Waiting (Settled (verdict_of {P = ℕ} (skipped_end (is_some r.winner)))) r next
skip-moved r next k at over step =
    let is : next ≡ with_slot r k (Settled (verdict_of {P = ℕ} (skipped_end (is_some r.winner)))) = (let both : Some next ≡ Some (with_slot r k (Settled (verdict_of {P = ℕ} (skipped_end (is_some r.winner))))) = sym step ∙ skip-steps r k at over in cc) in
    let now : slice_get next.slots k ≡ Some (Settled (verdict_of {P = ℕ} (skipped_end (is_some r.winner)))) = ap (λ (x : Race). slice_get x.slots k) is ∙ get-set-same r.slots k _ (slice_get_within r.slots k Waiting at) in
    let M : SlotState → Type 0 = λ t. Moves (Skip k) k Waiting t r next in
    elim (skip-moves r next k step) [
      | inl m ↦ subst M (moved-here r next k _ _ (slice_get_within r.slots k Waiting at) m.slots now) m
      | inr m ↦ subst M (moved-here r next k _ _ (slice_get_within r.slots k Waiting at) m.slots now) m
    ]

pub skip-keeps : {P : Type 0} (answers : List ℕ → Outcome P → Type 0) (terms : Terms) (v : View P) (next : Race) (ends : List (SlotEnd P)) (es : List Event) (ids : List (Option ℕ)) (total capacity room k : ℕ)
    → IsBoard answers terms v ids total capacity → slice_get v.race.slots k ≡ Some Waiting → is_open v.race ≡ false → es ≡ v.events ++ Skip k ∷ [] → step_of v.race (Skip k) ≡ Some next
    → ends ≡ changed (with_outcome (skipped_end (is_some v.race.winner))) k v.ends → room ≡ capacity
    → IsBoard answers terms (record { events = es; race = next; ends = ends; launcher = v.launcher }) ids total room
skip-keeps answers terms v next ends es ids total capacity room k b at over events step put same =
    let now = v.launcher in
    settles answers terms v next ends now es ids total capacity room (Skip k) k Waiting (verdict_of {P = ℕ} (skipped_end (is_some v.race.winner))) (skipped_end (is_some v.race.winner)) b events step (skip-moved v.race next k at over step) refl
    (adds-other terms.first now now terms.orders v.events v.race (Skip k) refl refl refl refl (sym (append-nil now.waits)) (sym (append-nil now.kills)) (omega arith) (omega arith))
    put (same-verdict _ _ (is_some v.race.winner))
    (λ end held. inr (inr (inl (record { before = v.events; behind = []; is = refl }, b.ends k Waiting end at held, ap (λ w. skipped_end (is_some w)) (history-is answers terms v ids total capacity b).winner))))
    refl refl (λ none. refl) refl (omega arith) same
