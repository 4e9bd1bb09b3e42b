-- The winner's slot is the one whose proof was accepted first, and no slot has a proof where there is no winner.
use Rattle.std.proofs.Common.{◌≡◌, ℕ, ◌<◌, ◌≤◌, Bool, true, false, cond, List, [], ◌∷◌, ◌++◌, map, refl, sym, ap, ◌∙◌, subst, Option, Some, None, inl, inr, length, arith, eq-eqb}
use Rattle.std.specs.Prelude.{◌==◌, ◌||◌, slice_get, filter, is_some}
use Rattle.std.specs.List.{list_any}
use Rattle.std.specs.Option.{option_map, option_or}
use Rattle.std.proofs.lemmas.Bool.Decides.{leb_tells}
use Rattle.std.proofs.lemmas.Option.{slice_get-map}
use Rattle.race_core.specs.declared.race.Race.{Race}
use Rattle.race_core.specs.declared.outcome.Verdict.{Verdict}
use Rattle.race_core.specs.declared.outcome.Verdict.TheVariants as verdict
use Rattle.race_core.specs.declared.outcome.Outcome.{Outcome}
use Rattle.race_core.specs.declared.outcome.Outcome.TheVariants as outcome
use Rattle.race_core.specs.declared.slot.SlotEnd.{SlotEnd}
use Rattle.race_core.specs.declared.slot.SlotState.{SlotState}
use Rattle.race_core.specs.declared.slot.SlotState.TheVariants.{Waiting, Running, Overdue, Reaped, ReapedLate, Settled}
use Rattle.race_core.specs.declared.event.Event.{Event}
use Rattle.race_core.specs.declared.event.Event.TheVariants.{Launch, NoStart, NoRoom, Reap, Settle, Skip, Expire}
use Rattle.race_core.specs.Steps.{after}
use Rattle.race_core.specs.Verdicts.{verdict_of}
use Rattle.race_core.specs.Histories.{events_of, first_proved, is_of, proved_by, HasPassed}
use Rattle.race_core.proofs.Legal.{after-is}
use Rattle.race_core.proofs.Slots.{get-within}

abbrev pub is_proved : Verdict → Bool
is_proved verdict.Proved = true
is_proved _ = false

-- an event that accepts a proof
abbrev pub wins : Event → Bool
wins (Settle k v) = is_proved v
wins _ = false

-- ---- the winner's slot has accepted a proof

kept_first : (p : Event → Bool) (e : Event) (es : List Event) (b : Bool) → p e ≡ b → b ≡ true → wins e ≡ true → list_any wins (filter p (e ∷ es)) ≡ true
kept_first p e es b is holds win =
    ap (λ c. list_any wins (cond c (e ∷ filter p es) (filter p es))) (is ∙ holds) ∙ ap (λ c. c || list_any wins (filter p es)) win

kept_later : (p : Event → Bool) (e : Event) (es : List Event) (b : Bool) → p e ≡ b → list_any wins (filter p es) ≡ true → list_any wins (filter p (e ∷ es)) ≡ true
kept_later p e es true is rest = ap (λ c. list_any wins (cond c (e ∷ filter p es) (filter p es))) is ∙ either (wins e) rest
  where
    either : (w : Bool) → list_any wins (filter p es) ≡ true → (w || list_any wins (filter p es)) ≡ true
    either true rest = refl
    either false rest = rest
kept_later p e es false is rest = ap (λ c. list_any wins (cond c (e ∷ filter p es) (filter p es))) is ∙ rest

settled_by : (k j : ℕ) (v : Verdict) → proved_by (Settle j v) ≡ Some k → (j ≡ k) × (is_proved v ≡ true)
settled_by k j verdict.Proved h = (cc, refl)
settled_by k j verdict.NoStart h = absurd cc
settled_by k j verdict.Lost h = absurd cc
settled_by k j verdict.ReadFault h = absurd cc
settled_by k j verdict.TooLong h = absurd cc
settled_by k j verdict.NoStatus h = absurd cc
settled_by k j verdict.NoProof h = absurd cc
settled_by k j verdict.BadText h = absurd cc
settled_by k j verdict.Saturated h = absurd cc
settled_by k j verdict.Spent h = absurd cc
settled_by k j verdict.TimedOut h = absurd cc
settled_by k j verdict.Cancelled h = absurd cc
settled_by k j verdict.NoMemory h = absurd cc

same_is : (k : ℕ) → (k == k) ≡ true
same_is k = eq-eqb k k refl

accepts : (k : ℕ) (e : Event) → proved_by e ≡ Some k → (is_of k e ≡ true) × (wins e ≡ true)
accepts k (Launch j) h = absurd cc
accepts k (NoStart j) h = absurd cc
accepts k (NoRoom j) h = absurd cc
accepts k (Reap j) h = absurd cc
accepts k (Settle j v) h = let s = settled_by k j v h in (ap (λ i. i == k) s.0 ∙ same_is k, s.1)
accepts k (Skip j) h = absurd cc
accepts k (Expire m) h = absurd cc

won_events : (k : ℕ) (es : List Event) → first_proved es ≡ Some k → list_any wins (events_of k es) ≡ true
won_events k [] h = absurd cc
won_events k (e ∷ es) h = at (proved_by e) refl h (won_events k es)
  where
    at : (o : Option ℕ) → proved_by e ≡ o → option_or o (first_proved es) ≡ Some k → (first_proved es ≡ Some k → list_any wins (events_of k es) ≡ true) →
        list_any wins (events_of k (e ∷ es)) ≡ true
    at None none later rest = kept_later (is_of k) e es (is_of k e) refl (rest later)
    at (Some j) is first rest =
        let here = accepts k e (is ∙ first) in
        kept_first (is_of k) e es (is_of k e) refl here.0 here.1

won_state : (k : ℕ) (s : SlotState) (es : List Event) → HasPassed k s es → list_any wins es ≡ true → s ≡ Settled verdict.Proved
won_state k Waiting es h win = absurd (let e = sym (ap (list_any wins) h) ∙ win in cc)
won_state k Running es h win = absurd (let e = sym (ap (list_any wins) h) ∙ win in cc)
won_state k Overdue es h win = absurd (let e = sym (ap (list_any wins) h) ∙ win in cc)
won_state k Reaped es h win = absurd (let e = sym (ap (list_any wins) h) ∙ win in cc)
won_state k ReapedLate es h win = absurd (let e = sym (ap (list_any wins) h) ∙ win in cc)
won_state k (Settled v) es (inl e) win = ap Settled (proved v (sym (ap (list_any wins) e) ∙ win))
  where
    proved : (v : Verdict) → (is_proved v || false) ≡ true → v ≡ verdict.Proved
    proved verdict.Proved h = refl
    proved verdict.NoStart h = absurd cc
    proved verdict.Lost h = absurd cc
    proved verdict.ReadFault h = absurd cc
    proved verdict.TooLong h = absurd cc
    proved verdict.NoStatus h = absurd cc
    proved verdict.NoProof h = absurd cc
    proved verdict.BadText h = absurd cc
    proved verdict.Saturated h = absurd cc
    proved verdict.Spent h = absurd cc
    proved verdict.TimedOut h = absurd cc
    proved verdict.Cancelled h = absurd cc
    proved verdict.NoMemory h = absurd cc
won_state k (Settled v) es (inr (inl p)) win = absurd (let e = sym (ap (list_any wins) p.0) ∙ win in cc)
won_state k (Settled v) es (inr (inr (inl p))) win = absurd (let e = sym (ap (list_any wins) p.0) ∙ win in cc)
won_state k (Settled v) es (inr (inr (inr p))) win = absurd (let e = sym (ap (list_any wins) p.0) ∙ win in cc)

-- the winner's slot is settled by its proof
pub won_slot : (n : ℕ) (until : Option ℕ) (es : List Event) (r : Race) (k : ℕ) → after n until es ≡ Some r → r.winner ≡ Some k → slice_get r.slots k ≡ Some (Settled verdict.Proved)
won_slot n until es r k h won =
    let all = after-is n until es r h in
    let win : list_any wins (events_of k es) ≡ true = won_events k es (sym all.winner ∙ won) in
    elim (leb_tells n k) as (λ _. slice_get r.slots k ≡ Some (Settled verdict.Proved)) [
      | inl past ↦ absurd (let e = sym (ap (list_any wins) (all.outside k past.1)) ∙ win in cc)
      | inr within ↦
          let at = get-within r.slots k (omega (arith, all.slots, within.1)) in
          at.1 ∙ ap Some (won_state k at.0 (events_of k es) (all.passed k at.0 at.1) win)
    ]

-- ---- where a slot is settled by a proof there is a winner

settle_wins : (k : ℕ) (v : Verdict) → is_proved v ≡ true → is_some (proved_by (Settle k v)) ≡ true
settle_wins k verdict.Proved h = refl
settle_wins k verdict.NoStart h = absurd cc
settle_wins k verdict.Lost h = absurd cc
settle_wins k verdict.ReadFault h = absurd cc
settle_wins k verdict.TooLong h = absurd cc
settle_wins k verdict.NoStatus h = absurd cc
settle_wins k verdict.NoProof h = absurd cc
settle_wins k verdict.BadText h = absurd cc
settle_wins k verdict.Saturated h = absurd cc
settle_wins k verdict.Spent h = absurd cc
settle_wins k verdict.TimedOut h = absurd cc
settle_wins k verdict.Cancelled h = absurd cc
settle_wins k verdict.NoMemory h = absurd cc

event_wins : (e : Event) → wins e ≡ true → is_some (proved_by e) ≡ true
event_wins (Launch j) h = absurd cc
event_wins (NoStart j) h = absurd cc
event_wins (NoRoom j) h = absurd cc
event_wins (Reap j) h = absurd cc
event_wins (Settle j v) h = settle_wins j v h
event_wins (Skip j) h = absurd cc
event_wins (Expire m) h = absurd cc

or_first : (o p : Option ℕ) → is_some o ≡ true → is_some (option_or o p) ≡ true
or_first None p h = absurd cc
or_first (Some x) p h = refl

or_later : (o p : Option ℕ) → is_some p ≡ true → is_some (option_or o p) ≡ true
or_later None p h = h
or_later (Some x) p h = refl

some_wins : (p : Event → Bool) (es : List Event) → list_any wins (filter p es) ≡ true → is_some (first_proved es) ≡ true
some_wins p [] h = absurd cc
some_wins p (e ∷ es) h = at (p e) (wins e) refl refl (some_wins p es)
  where
    at : (b w : Bool) → p e ≡ b → wins e ≡ w → (list_any wins (filter p es) ≡ true → is_some (first_proved es) ≡ true) →
        is_some (option_or (proved_by e) (first_proved es)) ≡ true
    at false w is win rest = or_later (proved_by e) (first_proved es) (rest (sym (ap (λ c. list_any wins (cond c (e ∷ filter p es) (filter p es))) is) ∙ h))
    at true true is win rest = or_first (proved_by e) (first_proved es) (event_wins e win)
    at true false is win rest =
        or_later (proved_by e) (first_proved es)
        (rest (sym (ap (λ c. list_any wins (cond c (e ∷ filter p es) (filter p es))) is ∙ ap (λ c. c || list_any wins (filter p es)) win) ∙ h))

proved_passes : (k : ℕ) (es : List Event) → HasPassed k (Settled verdict.Proved) es → list_any wins es ≡ true
proved_passes k es (inl e) = ap (list_any wins) e
proved_passes k es (inr (inl p)) = absurd (let e = p.1 in cc)
proved_passes k es (inr (inr (inl p))) = absurd (let e = p.1 in cc)
proved_passes k es (inr (inr (inr (_, inl e)))) = absurd cc
proved_passes k es (inr (inr (inr (_, inr e)))) = absurd cc

pub proved_wins : (n : ℕ) (until : Option ℕ) (es : List Event) (r : Race) (k : ℕ) → after n until es ≡ Some r → slice_get r.slots k ≡ Some (Settled verdict.Proved) →
    is_some (first_proved es) ≡ true
proved_wins n until es r k h at =
    some_wins (is_of k) es (proved_passes k (events_of k es) ((after-is n until es r h).passed k (Settled verdict.Proved) at))

pub cancelled_wins : (n : ℕ) (until : Option ℕ) (es : List Event) (r : Race) (k : ℕ) → after n until es ≡ Some r → slice_get r.slots k ≡ Some (Settled verdict.Cancelled) →
    is_some (first_proved es) ≡ true
cancelled_wins n until es r k h at = let all = after-is n until es r h in ap is_some (sym all.winner) ∙ all.cancelled k at

-- ---- what is settled stands in the list of ends

module _ {P : Type 0} where
  abbrev pub settled_end : SlotEnd P → SlotState
  settled_end end = Settled (verdict_of end.outcome)

  pub state_of : (slots : List SlotState) (ends : List (SlotEnd P)) (k : ℕ) (end : SlotEnd P) → slots ≡ map settled_end ends → slice_get ends k ≡ Some end →
      slice_get slots k ≡ Some (Settled (verdict_of end.outcome))
  state_of slots ends k end are at = ap (λ l. slice_get l k) are ∙ slice_get-map settled_end ends k ∙ ap (option_map settled_end) at

  end_of : (o : Option (SlotEnd P)) (s : SlotState) → option_map settled_end o ≡ Some s → (end : SlotEnd P) × ((o ≡ Some end) × (s ≡ Settled (verdict_of end.outcome)))
  end_of None s h = absurd cc
  end_of (Some end) s h = (end, (refl, cc))

  proof_in : (o : Outcome P) → verdict_of o ≡ verdict.Proved → (p : P) × (o ≡ outcome.Proved p)
  proof_in (outcome.Proved p) h = (p, refl)
  proof_in outcome.NoStart h = absurd cc
  proof_in (outcome.Lost i) h = absurd cc
  proof_in outcome.ReadFault h = absurd cc
  proof_in outcome.TooLong h = absurd cc
  proof_in outcome.NoStatus h = absurd cc
  proof_in outcome.NoProof h = absurd cc
  proof_in (outcome.BadText at) h = absurd cc
  proof_in outcome.Saturated h = absurd cc
  proof_in outcome.Spent h = absurd cc
  proof_in outcome.TimedOut h = absurd cc
  proof_in outcome.Cancelled h = absurd cc
  proof_in outcome.NoMemory h = absurd cc

  -- a slot of the ends with its proof
  pub record HasProof (ends : List (SlotEnd P)) (k : ℕ) : Type 0 where
    pub end : SlotEnd P
    pub at : slice_get ends k ≡ Some end
    pub proof : P
    pub is : end.outcome ≡ outcome.Proved proof

  -- the winner's end has a proof
  pub won_end : (n : ℕ) (until : Option ℕ) (es : List Event) (r : Race) (ends : List (SlotEnd P)) (k : ℕ) → after n until es ≡ Some r → r.slots ≡ map settled_end ends →
      r.winner ≡ Some k → HasProof ends k
  won_end n until es r ends k h are won =
      let state = won_slot n until es r k h won in
      let e = end_of (slice_get ends k) (Settled verdict.Proved) (sym (ap (λ l. slice_get l k) are ∙ slice_get-map settled_end ends k) ∙ state) in
      let same : verdict_of e.0.outcome ≡ verdict.Proved = let s = e.1.1 in cc in
      let p = proof_in e.0.outcome same in
      record { end = e.0; at = e.1.0; proof = p.0; is = p.1 }
