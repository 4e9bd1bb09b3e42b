-- Whether the limit of time has passed since a slot was launched.
use Rattle.std.proofs.Common.{◌≡◌, ◌≢◌, ℕ, ◌<◌, Bool, true, false, List, [], ◌∷◌, ◌++◌, length, refl, sym, ap, ◌∙◌, subst, Option, Some, None, inl, inr, append_assoc}
use Rattle.std.specs.Prelude.{slice_get, map, ◌||◌, is_some}
use Rattle.std.proofs.lemmas.Bool.Decides.{eqb_tells}
use Rattle.std.proofs.lemmas.List.Folds.{list_any-append}
use Rattle.std.proofs.lemmas.Option.{slice_get_within, slice_get-map}
use Rattle.race_core.specs.declared.race.Race.{Race}
use Rattle.race_core.specs.declared.outcome.Verdict.{Verdict}
use Rattle.race_core.specs.declared.outcome.Verdict.TheVariants as verdict
use Rattle.race_core.specs.declared.slot.SlotState.{SlotState}
use Rattle.race_core.specs.declared.slot.SlotState.TheVariants.{Waiting, Running, Overdue, Reaped, ReapedLate, Settled}
use Rattle.race_core.specs.declared.event.Event.{Event}
use Rattle.race_core.specs.declared.event.Event.TheVariants.{Launch, NoStart, NoRoom, Reap, Settle, Skip, Expire}
use Rattle.race_core.specs.Steps.{step_of, after, fresh, overdue}
use Rattle.race_core.specs.Histories.{is_expiry, has_expired, first_proved, WasLaunched, WasReaped}
use Rattle.race_core.proofs.Slots.{get-replicate}
use Rattle.race_core.proofs.Stepped.{settled-some, skipped-some, expired-some}
use Rattle.race_core.proofs.Invariant.{IsAfter, Moves, moved-here, moved-elsewhere}
use Rattle.race_core.proofs.Moved.{launch-moves, no_start-moves, no_room-moves, reap-moves, settle-moves, skip-moves, was-before}
use Rattle.race_core.proofs.Carried.{runs-carry}

-- what stands of a slot in this state
abbrev pub Stands : ℕ → SlotState → List Event → Type 0
Stands k Running es = WasLaunched k false es
Stands k Overdue es = WasLaunched k true es
Stands k Reaped es = WasReaped k false es
Stands k ReapedLate es = WasReaped k true es
Stands k Waiting es = Unit {0}
Stands k (Settled v) es = Unit {0}

-- of each slot so much stands, and a race is late where the limit has passed
pub record IsTimed (es : List Event) (r : Race) : Type 0 where
  pub stands : (k : ℕ) (s : SlotState) → slice_get r.slots k ≡ Some s → Stands k s es
  pub late : r.late ≡ has_expired es

or-false : (b : Bool) → (b || false) ≡ b
or-false true = refl
or-false false = refl

or-true : (b : Bool) → (b || true) ≡ true
or-true true = refl
or-true false = refl

pub expired-push : (es : List Event) (e : Event) → is_expiry e ≡ false → has_expired (es ++ e ∷ []) ≡ has_expired es
expired-push es e none =
    list_any-append is_expiry es (e ∷ []) ∙ ap (λ b. has_expired es || (b || false)) none ∙ or-false (has_expired es)

expired-now : (es : List Event) (m : ℕ) → has_expired (es ++ Expire m ∷ []) ≡ true
expired-now es m = list_any-append is_expiry es (Expire m ∷ []) ∙ or-true (has_expired es)

-- one more event behind a launch
launched-push : (k : ℕ) (late now : Bool) (es : List Event) (e : Event) (w : WasLaunched k late es) → has_expired (w.since ++ e ∷ []) ≡ now → WasLaunched k now (es ++ e ∷ [])
launched-push k late now es e w is = record {
  before = w.before;
  since = w.since ++ e ∷ [];
  is = ap (λ l. l ++ e ∷ []) w.is ∙ append_assoc w.before (Launch k ∷ w.since) (e ∷ []);
  late_is = is;
}

reaped-push : (k : ℕ) (late : Bool) (es : List Event) (e : Event) → WasReaped k late es → WasReaped k late (es ++ e ∷ [])
reaped-push k late es e w = record {
  before = w.before;
  between = w.between;
  behind = w.behind ++ e ∷ [];
  is = ap (λ l. l ++ e ∷ []) w.is ∙ append_assoc (w.before ++ Launch k ∷ w.between) (Reap k ∷ w.behind) (e ∷ []);
  late_is = w.late_is;
}

launches : (k : ℕ) (es : List Event) → WasLaunched k false (es ++ Launch k ∷ [])
launches k es = record { before = es; since = []; is = refl; late_is = refl }

reaps : (k : ℕ) (late : Bool) (es : List Event) → WasLaunched k late es → WasReaped k late (es ++ Reap k ∷ [])
reaps k late es w = record {
  before = w.before;
  between = w.since;
  behind = [];
  is = ap (λ l. l ++ Reap k ∷ []) w.is;
  late_is = w.late_is;
}

-- an event of another slot
stands-push : (k : ℕ) (s : SlotState) (es : List Event) (e : Event) → is_expiry e ≡ false → Stands k s es → Stands k s (es ++ e ∷ [])
stands-push k Waiting es e none w = tt
stands-push k Running es e none w = launched-push k false false es e w (expired-push w.since e none ∙ w.late_is)
stands-push k Overdue es e none w = launched-push k true true es e w (expired-push w.since e none ∙ w.late_is)
stands-push k Reaped es e none w = reaped-push k false es e w
stands-push k ReapedLate es e none w = reaped-push k true es e w
stands-push k (Settled v) es e none w = tt

-- the limit of time passes
stands-late : (k : ℕ) (s : SlotState) (es : List Event) (m : ℕ) → Stands k s es → Stands k (overdue s) (es ++ Expire m ∷ [])
stands-late k Waiting es m w = tt
stands-late k Running es m w = launched-push k false true es (Expire m) w (expired-now w.since m)
stands-late k Overdue es m w = launched-push k true true es (Expire m) w (expired-now w.since m)
stands-late k Reaped es m w = reaped-push k false es (Expire m) w
stands-late k ReapedLate es m w = reaped-push k true es (Expire m) w
stands-late k (Settled v) es m w = tt

-- a step that moves one slot
timed-moves : (es : List Event) (r next : Race) (e : Event) (k : ℕ) (s t : SlotState) → Moves e k s t r next → is_expiry e ≡ false → (Stands k s es → Stands k t (es ++ e ∷ [])) → IsTimed es r → IsTimed (es ++ e ∷ []) next
timed-moves es r next e k s t m none goes was = record {
  stands = λ j u is.
      elim (eqb_tells j k) [
        | inl p ↦
            (let same : t ≡ u = moved-here r next k t u (slice_get_within r.slots k s m.at) m.slots (ap (slice_get next.slots) (sym p.1) ∙ is) in
            let A : SlotState → Type 0 = λ x. Stands k x (es ++ e ∷ []) in
            let B : ℕ → Type 0 = λ x. Stands x u (es ++ e ∷ []) in
            subst B (sym p.1) (subst A same (goes (was.stands k s m.at))))
        | inr p ↦ stands-push j u es e none (was.stands j u (moved-elsewhere r next k j t u m.slots p.1 is))
      ];
  late = m.late ∙ was.late ∙ sym (expired-push es e none);
}

timed-expires : (es : List Event) (r next : Race) (m : ℕ) → step_of r (Expire m) ≡ Some next → IsTimed es r → IsTimed (es ++ Expire m ∷ []) next
timed-expires es r next m step was =
    let h = expired-some r m next step in
    let slots : next.slots ≡ map overdue r.slots = ap (λ (x : Race). x.slots) h.2 in
    record {
      stands = λ j u is.
          (let f = was-before (slice_get r.slots j) u (sym (slice_get-map overdue r.slots j) ∙ ap (λ l. slice_get l j) (sym slots) ∙ is) in
          let A : SlotState → Type 0 = λ x. Stands j x (es ++ Expire m ∷ []) in
          subst A f.1.1 (stands-late j f.0 es m (was.stands j f.0 f.1.0)));
      late = ap (λ (x : Race). x.late) h.2 ∙ sym (expired-now es m);
    }

timed-step : (es : List Event) (r next : Race) (e : Event) → IsTimed es r → step_of r e ≡ Some next → IsTimed (es ++ e ∷ []) next
timed-step es r next (Launch k) was step = timed-moves es r next (Launch k) k Waiting Running (launch-moves r next k step) refl (λ w. launches k es) was
timed-step es r next (NoStart k) was step = timed-moves es r next (NoStart k) k Waiting (Settled verdict.NoStart) (no_start-moves r next k step) refl (λ w. tt) was
timed-step es r next (NoRoom k) was step = timed-moves es r next (NoRoom k) k Waiting (Settled verdict.NoMemory) (no_room-moves r next k step) refl (λ w. tt) was
timed-step es r next (Reap k) was step =
    elim (reap-moves r next k step) [
      | inl m ↦ timed-moves es r next (Reap k) k Running Reaped m refl (λ w. reaps k false es w) was
      | inr m ↦ timed-moves es r next (Reap k) k Overdue ReapedLate m refl (λ w. reaps k true es w) was
    ]
timed-step es r next (Settle k v) was step =
    elim (settle-moves r next k v step) [
      | inl m ↦ timed-moves es r next (Settle k v) k Reaped (Settled v) m refl (λ w. tt) was
      | inr m ↦ timed-moves es r next (Settle k v) k ReapedLate (Settled v) m refl (λ w. tt) was
    ]
timed-step es r next (Skip k) was step =
    elim (skip-moves r next k step) [
      | inl m ↦ timed-moves es r next (Skip k) k Waiting (Settled verdict.Cancelled) m refl (λ w. tt) was
      | inr m ↦ timed-moves es r next (Skip k) k Waiting (Settled verdict.TimedOut) m refl (λ w. tt) was
    ]
timed-step es r next (Expire m) was step = timed-expires es r next m step was

timed-begins : (n : ℕ) (until : Option ℕ) → IsTimed [] (fresh n until)
timed-begins n until = record {
  stands = λ k s is. (let same : Waiting ≡ s = get-replicate n k Waiting s is in let A : SlotState → Type 0 = λ x. Stands k x [] in subst A same tt);
  late = refl;
}

-- every legal history is timed
pub timed-is : (n : ℕ) (until : Option ℕ) (es : List Event) (r : Race) → after n until es ≡ Some r → IsTimed es r
timed-is n until es r h = runs-carry IsTimed timed-step [] es (fresh n until) r (timed-begins n until) h

-- a slot is settled as timed out only where it was reaped late
pub timed-out-late : (n : ℕ) (until : Option ℕ) (es : List Event) (r next : Race) (k : ℕ) → after n until es ≡ Some r → step_of r (Settle k verdict.TimedOut) ≡ Some next → WasReaped k true es
timed-out-late n until es r next k is step =
    elim (settled-some r k verdict.TimedOut (slice_get r.slots k) next step).0 [
      | inl p ↦ (let no : false ≡ true = p.1 in cc)
      | inr p ↦ (timed-is n until es r is).stands k ReapedLate p.0
    ]

some-winner : (w : Option ℕ) → is_some w ≡ true → w ≡ None → ⊥
some-winner None h e = cc
some-winner (Some k) h e = cc

-- a slot is skipped without a win only in a late race
pub skipped-late : (n : ℕ) (until : Option ℕ) (es : List Event) (r next : Race) (k : ℕ) → after n until es ≡ Some r → IsAfter n until es r → step_of r (Skip k) ≡ Some next → first_proved es ≡ None → has_expired es ≡ true
skipped-late n until es r next k is was step none =
    elim (skipped-some r k (slice_get r.slots k) next step).1 [
      | inl p ↦ absurd (some-winner r.winner p.0 (was.winner ∙ none))
      | inr p ↦ sym (timed-is n until es r is).late ∙ p.0
    ]
