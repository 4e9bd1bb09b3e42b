-- What follows from that a slot's end is right.
use Rattle.std.proofs.Common.{◌≡◌, ℕ, ◌+◌, Bool, true, false, List, [], ◌∷◌, ◌++◌, length, refl, sym, ap, ◌∙◌, subst, arith, Option, Some, None, inl, inr, cond}
use Rattle.std.specs.Prelude.{slice_get, IsSome, is_some, nat_lt, ◌==◌}
use Rattle.std.proofs.lemmas.Bool.{false≢true}
use Rattle.std.proofs.lemmas.List.Elements.{filter_map-append}
use Rattle.race_core.specs.declared.race.Race.{Race}
use Rattle.race_core.specs.declared.slot.Kept.{Kept}
use Rattle.race_core.specs.declared.slot.SlotState.{SlotState}
use Rattle.race_core.specs.declared.slot.SlotState.TheVariants.{Running, Overdue}
use Rattle.race_core.specs.declared.outcome.Outcome.{Outcome}
use Rattle.race_core.specs.declared.outcome.Outcome.TheVariants as outcome
use Rattle.race_core.specs.declared.event.Event.{Event}
use Rattle.race_core.specs.declared.event.Event.TheVariants.{Reap, Settle}
use Rattle.race_core.specs.Steps.{step_of, IsLegal}
use Rattle.race_core.specs.Verdicts.{verdict_of}
use Rattle.race_core.specs.Histories.{id_of, launched, launched_by, first_proved}
use Rattle.race_core.proofs.Ids.{place, place-within}
use Rattle.race_core.proofs.Legal.{steps-at}
use Rattle.race_core.proofs.Stepped.{reaped-some}
use Rattle.race_board.specs.Drains.{most_bytes, AreFirst}
use Rattle.race_board.specs.Ends.{Terms, Stands, IsReaped, CallsFor, IsCalledFor, MayEnd, Right, skipped_end, is_read, is_up}
use Rattle.race_board.proofs.Seen.{launched-id}

-- an id stays, whatever follows
placed : (b : Bool) (n : ℕ) (o p : Option ℕ) (i : ℕ) → (o ≡ Some i → p ≡ Some i) → cond b (Some n) o ≡ Some i → cond b (Some n) p ≡ Some i
placed true n o p i more e = e
placed false n o p i more e = more e

place-on : (n : ℕ) (js ks : List ℕ) (k i : ℕ) → place n js k ≡ Some i → place n (js ++ ks) k ≡ Some i
place-on n [] ks k i e = cc
place-on n (j ∷ js) ks k i e = placed (j == k) n (place (n + 1) js k) (place (n + 1) (js ++ ks) k) i (place-on (n + 1) js ks k i) e

id-on : (first : ℕ) (es : List Event) (e : Event) (before behind : List Event) (k i : ℕ) → es ≡ before ++ e ∷ behind → id_of first before k ≡ Some i → id_of first es k ≡ Some i
id-on first es e before behind k i is own =
    ap (λ l. id_of first l k) is ∙ ap (λ js. place first js k) (filter_map-append launched_by before (e ∷ behind)) ∙ place-on first (launched before) (launched (e ∷ behind)) k i own

unread-skip : {P : Type 0} (w : Bool) (o : Outcome P) → o ≡ skipped_end w → is_read (verdict_of o) ≡ true → ⊥
unread-skip true o is read = false≢true (sym (ap (λ x. is_read (verdict_of x)) is) ∙ read)
unread-skip false o is read = false≢true (sym (ap (λ x. is_read (verdict_of x)) is) ∙ read)

-- a slot that was reaped late isn't read
unread-late : {P : Type 0} (answers : List ℕ → Outcome P → Type 0) (won : Bool) (kept : Kept) (o : Outcome P) → MayEnd answers true won kept o → is_read (verdict_of o) ≡ true → ⊥
unread-late answers won kept (outcome.Proved p) may read = cc
unread-late answers won kept outcome.NoStart may read = cc
unread-late answers won kept (outcome.Lost i) may read = cc
unread-late answers won kept outcome.ReadFault may read = cc
unread-late answers won kept outcome.TooLong may read = cc
unread-late answers won kept outcome.NoStatus may read = cc
unread-late answers won kept outcome.NoProof may read = cc
unread-late answers won kept (outcome.BadText at) may read = cc
unread-late answers won kept outcome.Saturated may read = cc
unread-late answers won kept outcome.Spent may read = cc
unread-late answers won kept outcome.TimedOut may read = cc
unread-late answers won kept outcome.Cancelled may read = cc
unread-late answers won kept outcome.NoMemory may read = cc

called-for : {P : Type 0} (answers : List ℕ → Outcome P → Type 0) (won : Bool) (kept : Kept) (o : Outcome P) → MayEnd answers false won kept o → is_read (verdict_of o) ≡ true → IsCalledFor answers kept o
called-for answers won kept (outcome.Proved p) may read = may
called-for answers won kept outcome.NoStart may read = may
called-for answers won kept (outcome.Lost i) may read = may
called-for answers won kept outcome.ReadFault may read = may
called-for answers won kept outcome.TooLong may read = may
called-for answers won kept outcome.NoStatus may read = may
called-for answers won kept outcome.NoProof may read = may
called-for answers won kept (outcome.BadText at) may read = may
called-for answers won kept outcome.Saturated may read = may
called-for answers won kept outcome.Spent may read = may
called-for answers won kept outcome.TimedOut may read = may
called-for answers won kept outcome.Cancelled may read = cc
called-for answers won kept outcome.NoMemory may read = cc

calls-whole : {P : Type 0} (lost : Option ℕ) (failed short long : Bool) (answers : Outcome P → Type 0) (o : Outcome P) → CallsFor lost failed short long answers o → is_read (verdict_of o) ≡ true → failed ≡ false → (lost ≡ None) × (short ≡ false)
calls-whole (Some i) failed short long answers o is read sound = absurd (false≢true (sym (ap (λ x. is_read (verdict_of x)) is) ∙ read))
calls-whole None true short long answers o is read sound = cc
calls-whole None false true long answers o is read sound = absurd is
calls-whole None false false long answers o is read sound = (refl, refl)

no-stray : (i : ℕ) → Some i ≡ None → ⊥
no-stray i e = cc

-- what a slot keeps of its own
keeps-first : (terms : Terms) (until : Option ℕ) (es : List Event) (k : ℕ) (late : Bool) (kept : Kept) → IsReaped terms until k late kept es → kept.stray ≡ None → kept.short ≡ false → kept.pipe_faults ≡ 0 → (i : ℕ) × (id_of terms.first.starts es k ≡ Some i) × AreFirst most_bytes (terms.children i).whole kept.bytes
keeps-first terms until es k late kept reaped own short sound =
    elim reaped.2 [
      | inl a ↦ (a.0, id-on terms.first.starts es (Reap k) reaped.0.before reaped.0.behind k a.0 reaped.0.is a.1, a.2.all short sound)
      | inr a ↦ absurd (no-stray a.0 (sym (ap (λ (x : Kept). x.stray) a.1) ∙ own))
    ]

first-of : {P : Type 0} (answers : List ℕ → Outcome P → Type 0) (terms : Terms) (until : Option ℕ) (k : ℕ) (kept : Kept) (o : Outcome P) (es : List Event) (late : Bool) (settle : Stands (Settle k (verdict_of o)) es)
    → IsReaped terms until k late kept settle.before → MayEnd answers late (is_some (first_proved settle.before)) kept o → is_read (verdict_of o) ≡ true → kept.pipe_faults ≡ 0
    → (i : ℕ) × (id_of terms.first.starts es k ≡ Some i) × AreFirst most_bytes (terms.children i).whole kept.bytes
first-of answers terms until k kept o es true settle reaped may read sound = absurd (unread-late answers _ kept o may read)
first-of answers terms until k kept o es false settle reaped may read sound =
    let called = called-for answers _ kept o may read in
    let whole = calls-whole kept.stray (nat_lt 0 kept.pipe_faults) kept.short _ (answers kept.bytes) o called read (ap (nat_lt 0) sound) in
    let own = keeps-first terms until settle.before k false kept reaped whole.0 whole.1 sound in
    (own.0, id-on terms.first.starts es (Settle k (verdict_of o)) settle.before settle.behind k own.0 settle.is own.1, own.2)

pub first-bytes : {P : Type 0} (answers : List ℕ → Outcome P → Type 0) (terms : Terms) (until : Option ℕ) (k : ℕ) (kept : Kept) (o : Outcome P) (es : List Event)
    → Right answers terms until k kept o es → is_read (verdict_of o) ≡ true → kept.pipe_faults ≡ 0
    → (i : ℕ) × (id_of terms.first.starts es k ≡ Some i) × AreFirst most_bytes (terms.children i).whole kept.bytes
first-bytes answers terms until k kept o es right read sound =
    elim right [
      | inl a ↦ absurd (false≢true (sym (ap (λ x. is_read (verdict_of x)) a.2) ∙ read))
      | inr b ↦
          elim b [
            | inl a ↦ absurd (false≢true (sym (ap (λ x. is_read (verdict_of x)) a.2) ∙ read))
            | inr c ↦
                elim c [
                  | inl a ↦ absurd (unread-skip _ o a.2 read)
                  | inr a ↦ first-of answers terms until k kept o es a.1 a.0 a.2 a.3 read sound
                ]
          ]
    ]

some-id : (o : Option ℕ) → IsSome o → (i : ℕ) × (o ≡ Some i)
some-id None h = cc
some-id (Some i) h = (i, refl)

up-before : (r next : Race) (k : ℕ) → step_of r (Reap k) ≡ Some next → (s : SlotState) × (slice_get r.slots k ≡ Some s) × (is_up s ≡ true)
up-before r next k step =
    elim (reaped-some r k (slice_get r.slots k) next step) [ inl a ↦ (Running, a.0, refl) | inr a ↦ (Overdue, a.0, refl) ]

-- the one slot of a race is up before its reap, under the one id of the race
pub one-own : (terms : Terms) (until : Option ℕ) (es : List Event) (k : ℕ) (late : Bool) (kept : Kept) → length terms.orders ≡ 1 → IsLegal (length terms.orders) until es → IsReaped terms until k late kept es → kept.stray ≡ None
one-own terms until es k late kept one legal reaped =
    let first : ℕ = terms.first.starts in
    let L : List Event → Type 0 = λ l. IsLegal (length terms.orders) until l in
    let at = steps-at (length terms.orders) until reaped.0.before reaped.0.behind (Reap k) (subst L reaped.0.is legal) in
    elim reaped.2 [
      | inl a ↦ a.2.unlost
      | inr a ↦
          (let mine = some-id (id_of first reaped.0.before k) (launched-id first k late reaped.0.before reaped.1) in
          let within = place-within first (launched reaped.0.before) k mine.0 mine.1 in
          let same : mine.0 ≡ a.0 = omega (arith, within.0, within.1, at.before.few, a.2.0, a.2.1, one) in
          let state = up-before at.race at.next k at.step in
          absurd (a.3 at.race at.is k state.0 state.1 state.2 (mine.1 ∙ ap Some same)))
    ]

pub one-slot : {P : Type 0} (answers : List ℕ → Outcome P → Type 0) (terms : Terms) (until : Option ℕ) (k : ℕ) (kept : Kept) (o : Outcome P) (es : List Event)
    → length terms.orders ≡ 1 → IsLegal (length terms.orders) until es → Right answers terms until k kept o es → kept.stray ≡ None
one-slot answers terms until k kept o es one legal right =
    elim right [
      | inl a ↦ ap (λ (x : Kept). x.stray) a.1
      | inr b ↦
          elim b [
            | inl a ↦ ap (λ (x : Kept). x.stray) a.1
            | inr c ↦
                elim c [
                  | inl a ↦ ap (λ (x : Kept). x.stray) a.1
                  | inr a ↦
                      (let L : List Event → Type 0 = λ l. IsLegal (length terms.orders) until l in
                      let at = steps-at (length terms.orders) until a.0.before a.0.behind (Settle k (verdict_of o)) (subst L a.0.is legal) in
                      one-own terms until a.0.before k a.1 kept one (ap is_some at.is) a.2)
                ]
          ]
    ]
