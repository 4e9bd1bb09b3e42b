-- What is right of a slot's end stays right, and how a slot may be settled.
use Rattle.std.proofs.Common.{◌≡◌, ◌≤◌, arith, ℕ, Bool, true, false, List, [], ◌∷◌, ◌++◌, refl, ap, ◌∙◌, Option, Some, None, inl, inr, append_assoc, ◌⊎◌}
use Rattle.std.specs.Prelude.{IsTrue, is_some, if◌then◌else◌, slice_get}
use Rattle.race_core.specs.declared.race.Race.{Race}
use Rattle.race_core.specs.declared.slot.Kept.{Kept}
use Rattle.race_core.specs.declared.slot.SlotEnd.{SlotEnd}
use Rattle.race_core.specs.declared.slot.SlotState.{SlotState}
use Rattle.race_core.specs.declared.slot.SlotState.TheVariants.{Waiting, Running, Overdue, Reaped, ReapedLate, Settled}
use Rattle.race_core.specs.declared.outcome.Outcome.{Outcome}
use Rattle.race_core.specs.declared.outcome.Outcome.TheVariants as outcome
use Rattle.race_core.specs.declared.event.Event.{Event}
use Rattle.race_core.specs.declared.event.Event.TheVariants.{NoStart, NoRoom, Reap, Settle, Skip}
use Rattle.race_core.specs.Steps.{step_of, settled, may_settle, may_settle_late, with_verdict}
use Rattle.race_core.specs.Verdicts.{verdict_of}
use Rattle.race_outside.specs.Works.{is_answer}
use Rattle.race_board.specs.Ends.{Terms, Stands, IsReaped, CallsFor, MayEnd, Right}
use Rattle.race_board.specs.Calls.{MaySettle}
use Rattle.race_board.specs.inner.Kept.{IsEnd, to_come}

-- an event stands where it stood, whatever follows
abbrev pub stands-push : (e d : Event) (es : List Event) → Stands e es → Stands e (es ++ d ∷ [])
stands-push e d es s = record {
  before = s.before;
  behind = s.behind ++ d ∷ [];
  is = ap (λ l. l ++ d ∷ []) s.is ∙ append_assoc s.before (e ∷ s.behind) (d ∷ []);
}

reaped-push : (terms : Terms) (until : Option ℕ) (k : ℕ) (late : Bool) (kept : Kept) (es : List Event) (d : Event) → IsReaped terms until k late kept es → IsReaped terms until k late kept (es ++ d ∷ [])
reaped-push terms until k late kept es d w = (stands-push (Reap k) d es w.0, w.1, w.2)

right-push : {P : Type 0} (answers : List ℕ → Outcome P → Type 0) (terms : Terms) (until : Option ℕ) (k : ℕ) (kept : Kept) (o : Outcome P) (es : List Event) (d : Event) → Right answers terms until k kept o es → Right answers terms until k kept o (es ++ d ∷ [])
right-push answers terms until k kept o es d w =
    elim w [
      | inl a ↦ inl (stands-push (NoStart k) d es a.0, a.1, a.2)
      | inr b ↦
          elim b [
            | inl a ↦ inr (inl (stands-push (NoRoom k) d es a.0, a.1, a.2))
            | inr c ↦
                elim c [
                  | inl a ↦ inr (inr (inl (stands-push (Skip k) d es a.0, a.1, a.2)))
                  | inr a ↦ inr (inr (inr (stands-push (Settle k (verdict_of o)) d es a.0, a.1, a.2, a.3)))
                ]
          ]
    ]

pub end-push : {P : Type 0} (answers : List ℕ → Outcome P → Type 0) (terms : Terms) (until : Option ℕ) (k : ℕ) (s : SlotState) (end : SlotEnd P) (es : List Event) (d : Event) → IsEnd answers terms until k s end es → IsEnd answers terms until k s end (es ++ d ∷ [])
end-push answers terms until k Waiting end es d w = w
end-push answers terms until k Running end es d w = w
end-push answers terms until k Overdue end es d w = w
end-push answers terms until k Reaped end es d w = reaped-push terms until k false end.kept es d w
end-push answers terms until k ReapedLate end es d w = reaped-push terms until k true end.kept es d w
end-push answers terms until k (Settled v) end es d w = (w.0, right-push answers terms until k end.kept end.outcome es d w.1)

-- how a slot can't end that was reaped in time
abbrev is_timely : {P : Type 0} → Outcome P → Bool
is_timely outcome.NoStart = false
is_timely outcome.TimedOut = false
is_timely _ = true

answer-timely : {P : Type 0} (o : Outcome P) → IsTrue (is_answer o) → is_timely o ≡ true
answer-timely (outcome.Proved p) h = refl
answer-timely outcome.NoStart h = h
answer-timely (outcome.Lost i) h = refl
answer-timely outcome.ReadFault h = refl
answer-timely outcome.TooLong h = refl
answer-timely outcome.NoStatus h = refl
answer-timely outcome.NoProof h = refl
answer-timely (outcome.BadText at) h = refl
answer-timely outcome.Saturated h = refl
answer-timely outcome.Spent h = refl
answer-timely outcome.TimedOut h = h
answer-timely outcome.Cancelled h = refl
answer-timely outcome.NoMemory h = refl

called-timely : {P : Type 0} (lost : Option ℕ) (failed short long : Bool) (answers : Outcome P → Type 0) (o : Outcome P) → ((x : Outcome P) → answers x → is_timely x ≡ true) → CallsFor lost failed short long answers o → is_timely o ≡ true
called-timely (Some i) failed short long answers o law h = ap is_timely h
called-timely None true short long answers o law h = ap is_timely h
called-timely None false true long answers o law h = absurd h
called-timely None false false true answers o law h = ap is_timely h
called-timely None false false false answers o law h = law o h

timely-settles : {P : Type 0} (answers : List ℕ → Outcome P → Type 0) (r : Race) (kept : Kept) (o : Outcome P) → ((bytes : List ℕ) (x : Outcome P) → answers bytes x → is_timely x ≡ true) → MayEnd answers false (is_some r.winner) kept o → may_settle r (verdict_of o) ≡ true
timely-settles answers r kept (outcome.Proved p) law h = refl
timely-settles answers r kept outcome.NoStart law h = called-timely kept.stray _ _ _ (answers kept.bytes) outcome.NoStart (law kept.bytes) h
timely-settles answers r kept (outcome.Lost i) law h = refl
timely-settles answers r kept outcome.ReadFault law h = refl
timely-settles answers r kept outcome.TooLong law h = refl
timely-settles answers r kept outcome.NoStatus law h = refl
timely-settles answers r kept outcome.NoProof law h = refl
timely-settles answers r kept (outcome.BadText at) law h = refl
timely-settles answers r kept outcome.Saturated law h = refl
timely-settles answers r kept outcome.Spent law h = refl
timely-settles answers r kept outcome.TimedOut law h = called-timely kept.stray _ _ _ (answers kept.bytes) outcome.TimedOut (law kept.bytes) h
timely-settles answers r kept outcome.Cancelled law h = h
timely-settles answers r kept outcome.NoMemory law h = refl

late-settles : {P : Type 0} (answers : List ℕ → Outcome P → Type 0) (r : Race) (kept : Kept) (o : Outcome P) → MayEnd answers true (is_some r.winner) kept o → may_settle_late r (verdict_of o) ≡ true
late-settles answers r kept (outcome.Proved p) h = cc
late-settles answers r kept outcome.NoStart h = cc
late-settles answers r kept (outcome.Lost i) h = cc
late-settles answers r kept outcome.ReadFault h = cc
late-settles answers r kept outcome.TooLong h = cc
late-settles answers r kept outcome.NoStatus h = cc
late-settles answers r kept outcome.NoProof h = cc
late-settles answers r kept (outcome.BadText at) h = cc
late-settles answers r kept outcome.Saturated h = cc
late-settles answers r kept outcome.Spent h = cc
late-settles answers r kept outcome.TimedOut h = refl
late-settles answers r kept outcome.Cancelled h = h
late-settles answers r kept outcome.NoMemory h = refl

-- a slot that may end so is reaped, and its verdict is legal
pub record IsReady {P : Type 0} (answers : List ℕ → Outcome P → Type 0) (r : Race) (k : ℕ) (ends : List (SlotEnd P)) (o : Outcome P) (s : SlotState) (late : Bool) : Type 0 where
  pub end : SlotEnd P
  pub held : slice_get ends k ≡ Some end
  pub at : slice_get r.slots k ≡ Some s
  pub may : MayEnd answers late (is_some r.winner) end.kept o
  pub step : step_of r (Settle k (verdict_of o)) ≡ Some (with_verdict r k (verdict_of o))

ready-in : {P : Type 0} (answers : List ℕ → Outcome P → Type 0) (r : Race) (k : ℕ) (ends : List (SlotEnd P)) (o : Outcome P) (a : Option SlotState) (b : Option (SlotEnd P)) → ((job : List ℕ) (x : Outcome P) → answers job x → IsTrue (is_answer x)) → slice_get r.slots k ≡ a → slice_get ends k ≡ b → MaySettle answers (is_some r.winner) a b o → IsReady answers r k ends o Reaped false ⊎ IsReady answers r k ends o ReapedLate true
ready-in answers r k ends o None b law at held h = absurd h
ready-in answers r k ends o (Some Waiting) b law at held h = absurd h
ready-in answers r k ends o (Some Running) b law at held h = absurd h
ready-in answers r k ends o (Some Overdue) b law at held h = absurd h
ready-in answers r k ends o (Some (Settled v)) b law at held h = absurd h
ready-in answers r k ends o (Some Reaped) None law at held h = absurd h
ready-in answers r k ends o (Some ReapedLate) None law at held h = absurd h
ready-in answers r k ends o (Some Reaped) (Some end) law at held h =
    let may : may_settle r (verdict_of o) ≡ true = timely-settles answers r end.kept o (λ bytes x a. answer-timely x (law bytes x a)) h in
    inl (record {
      end = end;
      held = held;
      at = at;
      may = h;
      step = ap (settled r k (verdict_of o)) at ∙ ap (λ t. if t then Some (with_verdict r k (verdict_of o)) else None) may;
    })
ready-in answers r k ends o (Some ReapedLate) (Some end) law at held h =
    let may : may_settle_late r (verdict_of o) ≡ true = late-settles answers r end.kept o h in
    inr (record {
      end = end;
      held = held;
      at = at;
      may = h;
      step = ap (settled r k (verdict_of o)) at ∙ ap (λ t. if t then Some (with_verdict r k (verdict_of o)) else None) may;
    })

pub ready : {P : Type 0} (answers : List ℕ → Outcome P → Type 0) (r : Race) (k : ℕ) (ends : List (SlotEnd P)) (o : Outcome P) → ((job : List ℕ) (x : Outcome P) → answers job x → IsTrue (is_answer x)) → MaySettle answers (is_some r.winner) (slice_get r.slots k) (slice_get ends k) o → IsReady answers r k ends o Reaped false ⊎ IsReady answers r k ends o ReapedLate true
ready answers r k ends o law h = ready-in answers r k ends o (slice_get r.slots k) (slice_get ends k) law refl refl h

pub ready-steps : {P : Type 0} (answers : List ℕ → Outcome P → Type 0) (r : Race) (k : ℕ) (ends : List (SlotEnd P)) (o : Outcome P) → IsReady answers r k ends o Reaped false ⊎ IsReady answers r k ends o ReapedLate true → step_of r (Settle k (verdict_of o)) ≡ Some (with_verdict r k (verdict_of o))
ready-steps answers r k ends o h = elim h [ inl a ↦ a.step | inr a ↦ a.step ]

pub ready-at : {P : Type 0} (answers : List ℕ → Outcome P → Type 0) (r : Race) (k : ℕ) (ends : List (SlotEnd P)) (o : Outcome P) → IsReady answers r k ends o Reaped false ⊎ IsReady answers r k ends o ReapedLate true → (s : SlotState) × (slice_get r.slots k ≡ Some s) × (1 ≤ to_come s)
ready-at answers r k ends o h = elim h [ inl a ↦ (Reaped, a.at, omega arith) | inr a ↦ (ReapedLate, a.at, omega arith) ]
