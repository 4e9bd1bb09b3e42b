-- How a slot ended whose bytes were answered for.
use Rattle.std.proofs.Common.{◌≡◌, ℕ, Bool, true, false, List, refl, sym, ap, ◌∙◌, subst, Option, Some, None, inl, inr, length}
use Rattle.std.specs.Prelude.{◌==◌, nat_lt, is_some, slice_get}
use Rattle.race_core.specs.declared.event.Event.{Event}
use Rattle.race_core.specs.declared.slot.Kept.{Kept}
use Rattle.race_core.specs.declared.slot.SlotEnd.{SlotEnd}
use Rattle.race_core.specs.declared.outcome.Outcome.{Outcome}
use Rattle.race_core.specs.declared.outcome.Outcome.TheVariants as outcome
use Rattle.race_core.specs.Histories.{first_proved}
use Rattle.race_board.specs.Drains.{most_bytes}
use Rattle.race_board.specs.Ends.{Terms, MayEnd, CallsFor, IsCalledFor, Right, AreRight, skipped_end}

module _ {P : Type 0} where
  -- an outcome that only a child's bytes can have
  abbrev pub is_answered : Outcome P → Bool
  is_answered (outcome.Proved p) = true
  is_answered outcome.NoStatus = true
  is_answered outcome.NoProof = true
  is_answered (outcome.BadText at) = true
  is_answered outcome.Saturated = true
  is_answered outcome.Spent = true
  is_answered _ = false

  calls_answers : (lost : Option ℕ) (failed short long : Bool) (answers : Outcome P → Type 0) (o : Outcome P) → is_answered o ≡ true → CallsFor lost failed short long answers o → answers o
  calls_answers (Some i) failed short long answers o told calls = absurd (let e = sym (ap is_answered calls) ∙ told in cc)
  calls_answers None true short long answers o told calls = absurd (let e = sym (ap is_answered calls) ∙ told in cc)
  calls_answers None false true long answers o told calls = absurd calls
  calls_answers None false false true answers o told calls = absurd (let e = sym (ap is_answered calls) ∙ told in cc)
  calls_answers None false false false answers o told calls = calls

  module _ (answers : List ℕ → Outcome P → Type 0) where
    may_answer : (late won : Bool) (kept : Kept) (o : Outcome P) → is_answered o ≡ true → MayEnd answers late won kept o → answers kept.bytes o
    may_answer late won kept outcome.NoMemory told may = absurd cc
    may_answer late won kept outcome.Cancelled told may = absurd cc
    may_answer true won kept o told may = absurd (late_is o told may)
      where
        late_is : (o : Outcome P) → is_answered o ≡ true → MayEnd answers true won kept o → ⊥
        late_is (outcome.Proved p) told may = cc
        late_is outcome.NoStatus told may = cc
        late_is outcome.NoProof told may = cc
        late_is (outcome.BadText at) told may = cc
        late_is outcome.Saturated told may = cc
        late_is outcome.Spent told may = cc
        late_is outcome.NoStart told may = cc
        late_is (outcome.Lost i) told may = cc
        late_is outcome.ReadFault told may = cc
        late_is outcome.TooLong told may = cc
        late_is outcome.TimedOut told may = cc
        late_is outcome.Cancelled told may = cc
        late_is outcome.NoMemory told may = cc
    may_answer false won kept o told may = calls_answers kept.stray (nat_lt 0 kept.pipe_faults) kept.short (length kept.bytes == most_bytes) (answers kept.bytes) o told (called o told may)
      where
        called : (o : Outcome P) → is_answered o ≡ true → MayEnd answers false won kept o → IsCalledFor answers kept o
        called (outcome.Proved p) told may = may
        called outcome.NoStatus told may = may
        called outcome.NoProof told may = may
        called (outcome.BadText at) told may = may
        called outcome.Saturated told may = may
        called outcome.Spent told may = may
        called outcome.NoStart told may = may
        called (outcome.Lost i) told may = may
        called outcome.ReadFault told may = may
        called outcome.TooLong told may = may
        called outcome.TimedOut told may = may
        called outcome.Cancelled told may = absurd cc
        called outcome.NoMemory told may = absurd cc

    skip_unanswered : (won : Bool) → is_answered (skipped_end {P = P} won) ≡ false
    skip_unanswered true = refl
    skip_unanswered false = refl

    -- a right end that only bytes can have is an answer for what the slot keeps
    pub right_answers : (terms : Terms) (until : Option ℕ) (k : ℕ) (kept : Kept) (o : Outcome P) (es : List Event) → Right answers terms until k kept o es →
        is_answered o ≡ true → answers kept.bytes o
    right_answers terms until k kept o es (inl a) told = absurd (let e = sym (ap is_answered a.2) ∙ told in cc)
    right_answers terms until k kept o es (inr (inl a)) told = absurd (let e = sym (ap is_answered a.2) ∙ told in cc)
    right_answers terms until k kept o es (inr (inr (inl (skip, nothing, e)))) told =
        absurd (let no = sym (ap is_answered e ∙ skip_unanswered (is_some (first_proved skip.before))) ∙ told in cc)
    right_answers terms until k kept o es (inr (inr (inr (settle, late, reaped, may)))) told = may_answer late (is_some (first_proved settle.before)) kept o told may

  -- ---- another relation of answers

  module _ (f g : List ℕ → Outcome P → Type 0) (law : (bytes : List ℕ) (o : Outcome P) → f bytes o → g bytes o) where
    calls_map : (lost : Option ℕ) (failed short long : Bool) (bytes : List ℕ) (o : Outcome P) → CallsFor lost failed short long (f bytes) o → CallsFor lost failed short long (g bytes) o
    calls_map (Some i) failed short long bytes o h = h
    calls_map None true short long bytes o h = h
    calls_map None false true long bytes o h = h
    calls_map None false false true bytes o h = h
    calls_map None false false false bytes o h = law bytes o h

    called_map : (kept : Kept) (o : Outcome P) → IsCalledFor f kept o → IsCalledFor g kept o
    called_map kept o h = calls_map kept.stray (nat_lt 0 kept.pipe_faults) kept.short (length kept.bytes == most_bytes) kept.bytes o h

    may_map : (late won : Bool) (kept : Kept) (o : Outcome P) → MayEnd f late won kept o → MayEnd g late won kept o
    may_map late won kept outcome.NoMemory h = h
    may_map late won kept outcome.Cancelled h = h
    may_map true won kept (outcome.Proved p) h = h
    may_map true won kept outcome.NoStart h = h
    may_map true won kept (outcome.Lost i) h = h
    may_map true won kept outcome.ReadFault h = h
    may_map true won kept outcome.TooLong h = h
    may_map true won kept outcome.NoStatus h = h
    may_map true won kept outcome.NoProof h = h
    may_map true won kept (outcome.BadText at) h = h
    may_map true won kept outcome.Saturated h = h
    may_map true won kept outcome.Spent h = h
    may_map true won kept outcome.TimedOut h = h
    may_map false won kept (outcome.Proved p) h = called_map kept (outcome.Proved p) h
    may_map false won kept outcome.NoStart h = called_map kept outcome.NoStart h
    may_map false won kept (outcome.Lost i) h = called_map kept (outcome.Lost i) h
    may_map false won kept outcome.ReadFault h = called_map kept outcome.ReadFault h
    may_map false won kept outcome.TooLong h = called_map kept outcome.TooLong h
    may_map false won kept outcome.NoStatus h = called_map kept outcome.NoStatus h
    may_map false won kept outcome.NoProof h = called_map kept outcome.NoProof h
    may_map false won kept (outcome.BadText at) h = called_map kept (outcome.BadText at) h
    may_map false won kept outcome.Saturated h = called_map kept outcome.Saturated h
    may_map false won kept outcome.Spent h = called_map kept outcome.Spent h
    may_map false won kept outcome.TimedOut h = called_map kept outcome.TimedOut h

    right_map : (terms : Terms) (until : Option ℕ) (k : ℕ) (kept : Kept) (o : Outcome P) (es : List Event) → Right f terms until k kept o es → Right g terms until k kept o es
    right_map terms until k kept o es (inl a) = inl a
    right_map terms until k kept o es (inr (inl a)) = inr (inl a)
    right_map terms until k kept o es (inr (inr (inl a))) = inr (inr (inl a))
    right_map terms until k kept o es (inr (inr (inr (settle, late, reaped, may)))) =
        inr (inr (inr (settle, late, reaped, may_map late (is_some (first_proved settle.before)) kept o may)))

    -- ends that are right by a relation are right by one that holds wherever it does
    pub right_by : (terms : Terms) (until : Option ℕ) (ends : List (SlotEnd P)) (es : List Event) → AreRight f terms until ends es → AreRight g terms until ends es
    right_by terms until ends es right k end at = right_map terms until k end.kept end.outcome es (right k end at)
