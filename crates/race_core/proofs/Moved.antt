-- Each legal step keeps what a history says of its race.
use Rattle.std.proofs.Common.{◌≡◌, ℕ, ◌+◌, ◌≤◌, ◌⊎◌, Bool, true, false, List, [], ◌∷◌, ◌++◌, length, refl, sym, ap, ◌∙◌, subst, arith, Option, Some, None, inl, inr, append-nil}
use Rattle.std.specs.Prelude.{slice_get, sum_by, map, option_map, is_some}
use Rattle.std.specs.Option.{option_or}
use Rattle.std.proofs.lemmas.Bool.{leb-true}
use Rattle.std.proofs.lemmas.List.{length-map}
use Rattle.std.proofs.lemmas.List.Elements.{filter_map-append}
use Rattle.std.proofs.lemmas.List.Sums.{sum_by-cons}
use Rattle.std.proofs.lemmas.Option.{slice_get-map}
use Rattle.race_core.specs.declared.race.Race.{Race}
use Rattle.race_core.specs.declared.outcome.Verdict.{Verdict}
use Rattle.race_core.specs.declared.outcome.Verdict.TheVariants as verdict
use Rattle.race_core.specs.declared.slot.SlotState.{SlotState}
use Rattle.race_core.specs.declared.slot.SlotState.TheVariants.{Waiting, Running, Overdue, Reaped, ReapedLate, Settled}
use Rattle.race_core.specs.declared.event.Event.{Event}
use Rattle.race_core.specs.declared.event.Event.TheVariants.{Launch, NoStart, NoRoom, Reap, Settle, Skip, Expire}
use Rattle.race_core.specs.Steps.{step_of, overdue, with_slot, with_verdict, winner_after, may_settle, may_settle_late, is_due}
use Rattle.race_core.specs.Histories.{events_of, HasPassed, proved_by, first_proved, moment_of, expiries, launched_by, launched}
use Rattle.race_core.proofs.Stepped.{started-some, reaped-some, settled-some, skipped-some, expired-some, is_open-true}
use Rattle.race_core.proofs.Invariant.{IsAfter, IsLateBy, Moves, moves-keep, waiting, events-others, first_proved-push}

or-none : (o : Option ℕ) → o ≡ option_or o None
or-none None = refl
or-none (Some k) = refl

behind : (es fs : List Event) (e : Event) → es ≡ fs → es ++ e ∷ [] ≡ fs ++ e ∷ []
behind es fs e same = ap (λ l. l ++ e ∷ []) same

pub launch-moves : (r next : Race) (k : ℕ) → step_of r (Launch k) ≡ Some next → Moves (Launch k) k Waiting Running r next
launch-moves r next k step =
    let h = started-some r k Running (slice_get r.slots k) next step in
    record {
      mine = λ j. refl;
      at = h.0;
      slots = ap (λ (x : Race). x.slots) h.2;
      winner = ap (λ (x : Race). x.winner) h.2 ∙ or-none r.winner;
      until = ap (λ (x : Race). x.until) h.2;
      late = ap (λ (x : Race). x.late) h.2;
      moment = refl;
      way = λ es was. behind es [] (Launch k) was;
      cancelled = λ e. cc;
      fewer = omega arith;
    }

pub no_start-moves : (r next : Race) (k : ℕ) → step_of r (NoStart k) ≡ Some next → Moves (NoStart k) k Waiting (Settled verdict.NoStart) r next
no_start-moves r next k step =
    let h = started-some r k (Settled verdict.NoStart) (slice_get r.slots k) next step in
    record {
      mine = λ j. refl;
      at = h.0;
      slots = ap (λ (x : Race). x.slots) h.2;
      winner = ap (λ (x : Race). x.winner) h.2 ∙ or-none r.winner;
      until = ap (λ (x : Race). x.until) h.2;
      late = ap (λ (x : Race). x.late) h.2;
      moment = refl;
      way = λ es was. inr (inl (behind es [] (NoStart k) was, refl));
      cancelled = λ e. cc;
      fewer = omega arith;
    }

pub no_room-moves : (r next : Race) (k : ℕ) → step_of r (NoRoom k) ≡ Some next → Moves (NoRoom k) k Waiting (Settled verdict.NoMemory) r next
no_room-moves r next k step =
    let h = started-some r k (Settled verdict.NoMemory) (slice_get r.slots k) next step in
    record {
      mine = λ j. refl;
      at = h.0;
      slots = ap (λ (x : Race). x.slots) h.2;
      winner = ap (λ (x : Race). x.winner) h.2 ∙ or-none r.winner;
      until = ap (λ (x : Race). x.until) h.2;
      late = ap (λ (x : Race). x.late) h.2;
      moment = refl;
      way = λ es was. inr (inr (inl (behind es [] (NoRoom k) was, refl)));
      cancelled = λ e. cc;
      fewer = omega arith;
    }

reap-moves-from : (r next : Race) (k : ℕ) (s t : SlotState) → slice_get r.slots k ≡ Some s → next ≡ with_slot r k t → ((es : List Event) → HasPassed k s es → HasPassed k t (es ++ Reap k ∷ [])) → (t ≡ Settled verdict.Cancelled → is_some next.winner ≡ true) → waiting t ≤ waiting s → Moves (Reap k) k s t r next
reap-moves-from r next k s t at is way cancelled fewer = record {
  mine = λ j. refl;
  at = at;
  slots = ap (λ (x : Race). x.slots) is;
  winner = ap (λ (x : Race). x.winner) is ∙ or-none r.winner;
  until = ap (λ (x : Race). x.until) is;
  late = ap (λ (x : Race). x.late) is;
  moment = refl;
  way = way;
  cancelled = cancelled;
  fewer = omega arith;
}

pub reap-moves : (r next : Race) (k : ℕ) → step_of r (Reap k) ≡ Some next → Moves (Reap k) k Running Reaped r next ⊎ Moves (Reap k) k Overdue ReapedLate r next
reap-moves r next k step =
    elim (reaped-some r k (slice_get r.slots k) next step) [
      | inl h ↦ inl (reap-moves-from r next k Running Reaped h.0 h.1 (λ es was. behind es (Launch k ∷ []) (Reap k) was) (λ e. cc) (omega arith))
      | inr h ↦ inr (reap-moves-from r next k Overdue ReapedLate h.0 h.1 (λ es was. behind es (Launch k ∷ []) (Reap k) was) (λ e. cc) (omega arith))
    ]

-- the winner after a verdict
winner-or : (w : Option ℕ) (k : ℕ) (v : Verdict) → winner_after w k v ≡ option_or w (proved_by (Settle k v))
winner-or (Some x) k v = refl
winner-or None k verdict.Proved = refl
winner-or None k verdict.NoStart = refl
winner-or None k verdict.Lost = refl
winner-or None k verdict.ReadFault = refl
winner-or None k verdict.TooLong = refl
winner-or None k verdict.NoStatus = refl
winner-or None k verdict.NoProof = refl
winner-or None k verdict.BadText = refl
winner-or None k verdict.Saturated = refl
winner-or None k verdict.Spent = refl
winner-or None k verdict.TimedOut = refl
winner-or None k verdict.Cancelled = refl
winner-or None k verdict.NoMemory = refl

some-after : (w : Option ℕ) (k : ℕ) (v : Verdict) → is_some w ≡ true → is_some (winner_after w k v) ≡ true
some-after (Some x) k v e = refl
some-after None k v e = cc

settle-moves-from : (r next : Race) (k : ℕ) (v : Verdict) (s : SlotState) → slice_get r.slots k ≡ Some s → next ≡ with_verdict r k v → ((es : List Event) → HasPassed k s es → es ≡ Launch k ∷ Reap k ∷ []) → (v ≡ verdict.Cancelled → is_some r.winner ≡ true) → Moves (Settle k v) k s (Settled v) r next
settle-moves-from r next k v s at is way cancelled = record {
  mine = λ j. refl;
  at = at;
  slots = ap (λ (x : Race). x.slots) is;
  winner = ap (λ (x : Race). x.winner) is ∙ winner-or r.winner k v;
  until = ap (λ (x : Race). x.until) is;
  late = ap (λ (x : Race). x.late) is;
  moment = refl;
  way = λ es was. inl (behind es (Launch k ∷ Reap k ∷ []) (Settle k v) (way es was));
  cancelled = λ e. ap (λ (x : Race). is_some x.winner) is ∙ some-after r.winner k v (cancelled cc);
  fewer = omega arith;
}

pub settle-moves : (r next : Race) (k : ℕ) (v : Verdict) → step_of r (Settle k v) ≡ Some next → Moves (Settle k v) k Reaped (Settled v) r next ⊎ Moves (Settle k v) k ReapedLate (Settled v) r next
settle-moves r next k v step =
    let h = settled-some r k v (slice_get r.slots k) next step in
    elim h.0 [
      | inl p ↦ inl (settle-moves-from r next k v Reaped p.0 h.1 (λ es was. was) (λ e. sym (ap (may_settle r) e) ∙ p.1))
      | inr p ↦ inr (settle-moves-from r next k v ReapedLate p.0 h.1 (λ es was. was) (λ e. sym (ap (may_settle_late r) e) ∙ p.1))
    ]

skip-moves-from : (r next : Race) (k : ℕ) (v : Verdict) → slice_get r.slots k ≡ Some Waiting → next ≡ with_slot r k (Settled v) → (v ≡ verdict.Cancelled) ⊎ (v ≡ verdict.TimedOut) → (v ≡ verdict.Cancelled → is_some r.winner ≡ true) → Moves (Skip k) k Waiting (Settled v) r next
skip-moves-from r next k v at is kind cancelled = record {
  mine = λ j. refl;
  at = at;
  slots = ap (λ (x : Race). x.slots) is;
  winner = ap (λ (x : Race). x.winner) is ∙ or-none r.winner;
  until = ap (λ (x : Race). x.until) is;
  late = ap (λ (x : Race). x.late) is;
  moment = refl;
  way = λ es was. inr (inr (inr (behind es [] (Skip k) was, kind)));
  cancelled = λ e. ap (λ (x : Race). is_some x.winner) is ∙ cancelled cc;
  fewer = omega arith;
}

pub skip-moves : (r next : Race) (k : ℕ) → step_of r (Skip k) ≡ Some next → Moves (Skip k) k Waiting (Settled verdict.Cancelled) r next ⊎ Moves (Skip k) k Waiting (Settled verdict.TimedOut) r next
skip-moves r next k step =
    let h = skipped-some r k (slice_get r.slots k) next step in
    elim h.1 [
      | inl p ↦ inl (skip-moves-from r next k verdict.Cancelled h.0 p.1 (inl refl) (λ e. p.0))
      | inr p ↦ inr (skip-moves-from r next k verdict.TimedOut h.0 p.1 (inr refl) (λ e. cc))
    ]

-- the slots of a race that becomes late
waiting-overdue : (xs : List SlotState) → sum_by waiting (map overdue xs) ≡ sum_by waiting xs
waiting-overdue [] = refl
waiting-overdue (x ∷ xs) =
    let one : waiting (overdue x) ≡ waiting x = elim x as (λ s. waiting (overdue s) ≡ waiting s) [ Waiting ↦ refl | Running ↦ refl | Overdue ↦ refl | Reaped ↦ refl | ReapedLate ↦ refl | Settled v ↦ refl ] in
    sum_by-cons waiting (overdue x) (map overdue xs) ∙ (let h = waiting-overdue xs in let q : waiting (overdue x) + sum_by waiting (map overdue xs) ≡ waiting x + sum_by waiting xs = cc in q) ∙ sym (sum_by-cons waiting x xs)

pub was-before : (o : Option SlotState) (t : SlotState) → option_map overdue o ≡ Some t → (s : SlotState) × ((o ≡ Some s) × (overdue s ≡ t))
was-before None t e = cc
was-before (Some s) t e = (s, (refl, cc))

way-overdue : (k : ℕ) (s t : SlotState) (es : List Event) → overdue s ≡ t → HasPassed k s es → HasPassed k t es
way-overdue k s t es e was =
    let P : SlotState → Type 0 = λ x. HasPassed k x es in
    subst P e (elim s as (λ x. HasPassed k x es → HasPassed k (overdue x) es) [ Waiting ↦ λ h. h | Running ↦ λ h. h | Overdue ↦ λ h. h | Reaped ↦ λ h. h | ReapedLate ↦ λ h. h | Settled v ↦ λ h. h ] was)

settled-before : (s : SlotState) (v : Verdict) → overdue s ≡ Settled v → s ≡ Settled v
settled-before Waiting v e = e
settled-before Running v e = cc
settled-before Overdue v e = e
settled-before Reaped v e = e
settled-before ReapedLate v e = e
settled-before (Settled w) v e = e

never-before : (late : Bool) (moments : List ℕ) → IsLateBy late moments → late ≡ false → moments ≡ []
never-before true moments h e = cc
never-before false moments h e = h

pub expire-keeps : (n : ℕ) (until : Option ℕ) (es : List Event) (r next : Race) (m : ℕ) → IsAfter n until es r → step_of r (Expire m) ≡ Some next → IsAfter n until (es ++ Expire m ∷ []) next
expire-keeps n until es r next m was step =
    let h = expired-some r m next step in
    let slots : next.slots ≡ map overdue r.slots = ap (λ (x : Race). x.slots) h.2 in
    let found : (j : ℕ) (u : SlotState) → slice_get next.slots j ≡ Some u → (s : SlotState) × ((slice_get r.slots j ≡ Some s) × (overdue s ≡ u)) = λ j u is. was-before (slice_get r.slots j) u (sym (slice_get-map overdue r.slots j) ∙ ap (λ l. slice_get l j) (sym slots) ∙ is) in
    record {
      slots = ap length slots ∙ length-map r.slots overdue ∙ was.slots;
      limit = ap (λ (x : Race). x.until) h.2 ∙ was.limit;
      winner = ap (λ (x : Race). x.winner) h.2 ∙ was.winner ∙ or-none (first_proved es) ∙ sym (first_proved-push es (Expire m));
      late = (let P : Bool → Type 0 = λ b. IsLateBy b (expiries (es ++ Expire m ∷ [])) in
          subst P (sym (ap (λ (x : Race). x.late) h.2)) (m, filter_map-append moment_of es (Expire m ∷ []) ∙ ap (λ l. l ++ m ∷ []) (never-before r.late (expiries es) was.late (is_open-true r h.0).1)));
      passed = λ j u is.
          (let f = found j u is in
          let P : List Event → Type 0 = λ x. HasPassed j u x in
          subst P (sym (events-others j es (Expire m) refl)) (way-overdue j f.0 u (events_of j es) f.1.1 (was.passed j f.0 f.1.0)));
      outside = λ j past. events-others j es (Expire m) refl ∙ was.outside j past;
      cancelled = λ j is.
          (let f = found j (Settled verdict.Cancelled) is in
          ap (λ (x : Race). is_some x.winner) h.2 ∙ was.cancelled j (f.1.0 ∙ ap Some (settled-before f.0 verdict.Cancelled f.1.1)));
      few = (let same : launched (es ++ Expire m ∷ []) ≡ launched es = filter_map-append launched_by es (Expire m ∷ []) ∙ append-nil (launched es) in
          let sums : sum_by waiting next.slots ≡ sum_by waiting r.slots = ap (sum_by waiting) slots ∙ waiting-overdue r.slots in
          omega (arith, was.few, ap length same));
    }

-- one more legal event
pub step-keeps : (n : ℕ) (until : Option ℕ) (es : List Event) (r next : Race) (e : Event) → IsAfter n until es r → step_of r e ≡ Some next → IsAfter n until (es ++ e ∷ []) next
step-keeps n until es r next (Launch k) was step = moves-keep n until es r next (Launch k) k Waiting Running was (launch-moves r next k step)
step-keeps n until es r next (NoStart k) was step = moves-keep n until es r next (NoStart k) k Waiting (Settled verdict.NoStart) was (no_start-moves r next k step)
step-keeps n until es r next (NoRoom k) was step = moves-keep n until es r next (NoRoom k) k Waiting (Settled verdict.NoMemory) was (no_room-moves r next k step)
step-keeps n until es r next (Reap k) was step =
    elim (reap-moves r next k step) [
      | inl m ↦ moves-keep n until es r next (Reap k) k Running Reaped was m
      | inr m ↦ moves-keep n until es r next (Reap k) k Overdue ReapedLate was m
    ]
step-keeps n until es r next (Settle k v) was step =
    elim (settle-moves r next k v step) [
      | inl m ↦ moves-keep n until es r next (Settle k v) k Reaped (Settled v) was m
      | inr m ↦ moves-keep n until es r next (Settle k v) k ReapedLate (Settled v) was m
    ]
step-keeps n until es r next (Skip k) was step =
    elim (skip-moves r next k step) [
      | inl m ↦ moves-keep n until es r next (Skip k) k Waiting (Settled verdict.Cancelled) was m
      | inr m ↦ moves-keep n until es r next (Skip k) k Waiting (Settled verdict.TimedOut) was m
    ]
step-keeps n until es r next (Expire m) was step = expire-keeps n until es r next m was step

-- a slot is settled as cancelled only in a race with a winner
pub cancelled-behind : (r next : Race) (k : ℕ) → step_of r (Settle k verdict.Cancelled) ≡ Some next → is_some r.winner ≡ true
cancelled-behind r next k step =
    elim (settled-some r k verdict.Cancelled (slice_get r.slots k) next step).0 [ inl p ↦ p.1 | inr p ↦ p.1 ]

-- what stands before a slot's verdict
pub settle-behind : (n : ℕ) (until : Option ℕ) (es : List Event) (r next : Race) (k : ℕ) (v : Verdict) → IsAfter n until es r → step_of r (Settle k v) ≡ Some next → events_of k es ≡ Launch k ∷ Reap k ∷ []
settle-behind n until es r next k v was step =
    elim (settled-some r k v (slice_get r.slots k) next step).0 [
      | inl p ↦ was.passed k Reaped p.0
      | inr p ↦ was.passed k ReapedLate p.0
    ]

-- a limit that has passed
pub due-is : (limit until : Option ℕ) (m : ℕ) → limit ≡ until → is_due limit m ≡ true → (u : ℕ) × (until ≡ Some u) × (u ≤ m)
due-is None until m same due = cc
due-is (Some u) until m same due = (u, sym same, omega (arith, leb-true u m due))
