-- That a slot that keeps no stray pipe's id isn't lost.
use Rattle.std.proofs.Common.{◌≡◌, ℕ, Bool, true, false, List, subst, Option, None, Some, inl, inr}
use Rattle.std.specs.Prelude.{IsTrue, is_some}
use Rattle.race_core.specs.Histories.{first_proved}
use Rattle.race_core.specs.declared.event.Event.{Event}
use Rattle.race_core.specs.declared.slot.Kept.{Kept}
use Rattle.race_core.specs.declared.outcome.Outcome.{Outcome}
use Rattle.race_core.specs.declared.outcome.Outcome.TheVariants as outcome
use Rattle.race_outside.specs.Works.{is_answer}
use Rattle.race_board.specs.Ends.{Terms, MayEnd, CallsFor, Right, skipped_end}

calls-lost : {P : Type 0} (lost : Option ℕ) (failed short long : Bool) (answers : Outcome P → Type 0) (i : ℕ) → lost ≡ None → (answers (outcome.Lost i) → ⊥) → CallsFor lost failed short long answers (outcome.Lost i) → ⊥
calls-lost (Some j) failed short long answers i own law calls = cc
calls-lost None true short long answers i own law calls = cc
calls-lost None false true long answers i own law calls = calls
calls-lost None false false true answers i own law calls = cc
calls-lost None false false false answers i own law calls = law calls

may-lose : {P : Type 0} (answers : List ℕ → Outcome P → Type 0) (late won : Bool) (kept : Kept) (i : ℕ) → kept.stray ≡ None → (answers kept.bytes (outcome.Lost i) → ⊥) → MayEnd answers late won kept (outcome.Lost i) → ⊥
may-lose answers true won kept i own law may = cc
may-lose answers false won kept i own law may = calls-lost kept.stray _ _ _ (answers kept.bytes) i own law may

skip-lost : {P : Type 0} (won : Bool) (i : ℕ) → skipped_end {P = P} won ≡ outcome.Lost i → ⊥
skip-lost true i e = cc
skip-lost false i e = cc

pub not-lost : {P : Type 0} (answers : List ℕ → Outcome P → Type 0) → ((bytes : List ℕ) (o : Outcome P) → answers bytes o → IsTrue (is_answer o))
    → (terms : Terms) (until : Option ℕ) (k : ℕ) (kept : Kept) (o : Outcome P) (es : List Event) → Right answers terms until k kept o es → kept.stray ≡ None → (i : ℕ) → o ≡ outcome.Lost i → ⊥
not-lost answers law terms until k kept o es right own i is =
    elim right [
      | inl a ↦ absurd (let e = a.2 in cc)
      | inr b ↦
          elim b [
            | inl a ↦ absurd (let e = a.2 in cc)
            | inr c ↦
                elim c [
                  | inl (skip, nothing, e) ↦ skip-lost _ i (subst (λ x. x ≡ outcome.Lost i) e is)
                  | inr (settle, late, reaped, may) ↦
                      may-lose answers late _ kept i own (λ a. let t = law kept.bytes (outcome.Lost i) a in cc) (subst (λ x. MayEnd answers late (is_some (first_proved settle.before)) kept x) is may)
                ]
          ]
    ]
