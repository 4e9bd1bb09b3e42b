-- Slots of a race without a winner, where the children were sound, each start succeeded and the limit of time didn't pass.
use Rattle.std.proofs.Common.{◌≡◌, ◌≢◌, ◌⊎◌, ℕ, Bool, true, false, List, [], ◌∷◌, ◌++◌, length, refl, sym, ap, ◌∙◌, subst, Option, Some, None, inl, inr}
use Rattle.std.specs.Prelude.{◌==◌, ◌||◌, nat_lt, is_some, IsTrue}
use Rattle.std.specs.Option.{option_or}
use Rattle.std.specs.List.{filter_map, cons_option, list_any}
use Rattle.std.proofs.lemmas.Bool.{eqb-true, false≢true}
use Rattle.std.proofs.lemmas.List.Elements.{filter_map-append}
use Rattle.std.proofs.lemmas.List.Folds.{list_any-append}
use Rattle.race_core.specs.declared.race.Race.{Race}
use Rattle.race_core.specs.declared.event.Event.{Event}
use Rattle.race_core.specs.declared.event.Event.TheVariants.{Launch, NoStart, Reap, Settle, Skip}
use Rattle.race_core.specs.declared.slot.Kept.{Kept}
use Rattle.race_core.specs.declared.outcome.Verdict.TheVariants as verdict
use Rattle.race_core.specs.declared.outcome.Outcome.{Outcome}
use Rattle.race_core.specs.declared.outcome.Outcome.TheVariants as outcome
use Rattle.race_core.specs.Ran.{unstarted, unstarted_by}
use Rattle.race_core.specs.Steps.{after, IsLegal}
use Rattle.race_core.specs.Verdicts.{verdict_of}
use Rattle.race_core.specs.Histories.{first_proved, has_expired, is_expiry, proved_by, WasLaunched}
use Rattle.race_core.proofs.Legal.{steps-at}
use Rattle.race_core.proofs.Timed.{skipped-late}
use Rattle.race_outside.specs.Works.{is_answer}
use Rattle.race_board.specs.Drains.{most_bytes}
use Rattle.race_board.specs.Ends.{Terms, Stands, MayEnd, CallsFor, IsCalledFor, IsReaped, Keeps, Right, skipped_end, is_read}

-- ---- parts of histories

or_parts : (a b : Bool) → (a || b) ≡ false → (a ≡ false) × (b ≡ false)
or_parts true b h = absurd cc
or_parts false b h = (refl, h)

unexpired : (es before behind : List Event) (e : Event) → es ≡ before ++ e ∷ behind → has_expired es ≡ false → (has_expired before ≡ false) × (has_expired behind ≡ false)
unexpired es before behind e is none =
    let whole = sym (list_any-append is_expiry before (e ∷ behind)) ∙ sym (ap has_expired is) ∙ none in
    let two = or_parts (has_expired before) (list_any is_expiry (e ∷ behind)) whole in
    (two.0, (or_parts (is_expiry e) (has_expired behind) two.1).1)

or_none : (o p : Option ℕ) → option_or o p ≡ None → (o ≡ None) × (p ≡ None)
or_none None p h = (refl, h)
or_none (Some x) p h = absurd cc

unwon_part : (before rest : List Event) → first_proved (before ++ rest) ≡ None → first_proved before ≡ None
unwon_part [] rest none = refl
unwon_part (e ∷ before) rest none =
    let two = or_none (proved_by e) (first_proved (before ++ rest)) none in
    ap (λ o. option_or o (first_proved before)) two.0 ∙ unwon_part before rest two.1

unwon_before : (es before rest : List Event) → es ≡ before ++ rest → first_proved es ≡ None → first_proved before ≡ None
unwon_before es before rest is none = unwon_part before rest (sym (ap first_proved is) ∙ none)

not_nil : (xs ys : List ℕ) (k : ℕ) → xs ++ k ∷ ys ≡ [] → ⊥
not_nil [] ys k h = cc
not_nil (x ∷ xs) ys k h = cc

all_started : (es before behind : List Event) (k : ℕ) → es ≡ before ++ NoStart k ∷ behind → unstarted es ≡ [] → ⊥
all_started es before behind k is none =
    not_nil (unstarted before) (unstarted behind) k (sym (ap unstarted is ∙ filter_map-append unstarted_by before (NoStart k ∷ behind)) ∙ none)

-- ---- what is called for

module _ {P : Type 0} where
  calls_stray : (lost : Option ℕ) (failed short long : Bool) (answers : Outcome P → Type 0) (o : Outcome P) (i : ℕ) → lost ≡ Some i → CallsFor lost failed short long answers o → o ≡ outcome.Lost i
  calls_stray (Some j) failed short long answers o i is calls = calls ∙ ap outcome.Lost cc
  calls_stray None failed short long answers o i is calls = absurd cc

  calls_no_start : (lost : Option ℕ) (failed short long : Bool) (answers : Outcome P → Type 0) → (answers outcome.NoStart → ⊥) → CallsFor lost failed short long answers outcome.NoStart → ⊥
  calls_no_start (Some j) failed short long answers law calls = cc
  calls_no_start None true short long answers law calls = cc
  calls_no_start None false true long answers law calls = calls
  calls_no_start None false false true answers law calls = cc
  calls_no_start None false false false answers law calls = law calls

  calls_timed_out : (lost : Option ℕ) (failed short long : Bool) (answers : Outcome P → Type 0) → (answers outcome.TimedOut → ⊥) → CallsFor lost failed short long answers outcome.TimedOut → ⊥
  calls_timed_out (Some j) failed short long answers law calls = cc
  calls_timed_out None true short long answers law calls = cc
  calls_timed_out None false true long answers law calls = calls
  calls_timed_out None false false true answers law calls = cc
  calls_timed_out None false false false answers law calls = law calls

  calls_heard : (lost : Option ℕ) (failed short long : Bool) (answers : Outcome P → Type 0) (o : Outcome P) → is_read (verdict_of o) ≡ true → failed ≡ false →
      CallsFor lost failed short long answers o → (long ≡ true) ⊎ answers o
  calls_heard (Some i) failed short long answers o read sound calls = absurd (false≢true (sym (ap (λ x. is_read (verdict_of x)) calls) ∙ read))
  calls_heard None true short long answers o read sound calls = absurd cc
  calls_heard None false true long answers o read sound calls = absurd calls
  calls_heard None false false true answers o read sound calls = inl refl
  calls_heard None false false false answers o read sound calls = inr calls

  module _ (answers : List ℕ → Outcome P → Type 0) where
    called : (late won : Bool) (kept : Kept) (o : Outcome P) → is_read (verdict_of o) ≡ true → MayEnd answers late won kept o → IsCalledFor answers kept o
    called true won kept outcome.NoMemory read may = absurd cc
    called true won kept outcome.Cancelled read may = absurd cc
    called true won kept (outcome.Proved p) read may = absurd cc
    called true won kept outcome.NoStart read may = absurd cc
    called true won kept (outcome.Lost i) read may = absurd cc
    called true won kept outcome.ReadFault read may = absurd cc
    called true won kept outcome.TooLong read may = absurd cc
    called true won kept outcome.NoStatus read may = absurd cc
    called true won kept outcome.NoProof read may = absurd cc
    called true won kept (outcome.BadText at) read may = absurd cc
    called true won kept outcome.Saturated read may = absurd cc
    called true won kept outcome.Spent read may = absurd cc
    called true won kept outcome.TimedOut read may = absurd cc
    called false won kept outcome.NoMemory read may = absurd cc
    called false won kept outcome.Cancelled read may = absurd cc
    called false won kept (outcome.Proved p) read may = may
    called false won kept outcome.NoStart read may = may
    called false won kept (outcome.Lost i) read may = may
    called false won kept outcome.ReadFault read may = may
    called false won kept outcome.TooLong read may = may
    called false won kept outcome.NoStatus read may = may
    called false won kept outcome.NoProof read may = may
    called false won kept (outcome.BadText at) read may = may
    called false won kept outcome.Saturated read may = may
    called false won kept outcome.Spent read may = may
    called false won kept outcome.TimedOut read may = may

    skip_unread : (won : Bool) → is_read (verdict_of (skipped_end {P = P} won)) ≡ false
    skip_unread true = refl
    skip_unread false = refl

    unread : (o x : Outcome P) → o ≡ x → is_read (verdict_of x) ≡ false → is_read (verdict_of o) ≡ true → ⊥
    unread o x is none read = false≢true (sym (ap (λ y. is_read (verdict_of y)) is ∙ none) ∙ read)

    -- what was read of a sound pipe is too long, or the end is an answer for it
    pub heard_end : (terms : Terms) (until : Option ℕ) (k : ℕ) (kept : Kept) (o : Outcome P) (es : List Event) → Right answers terms until k kept o es →
        is_read (verdict_of o) ≡ true → kept.pipe_faults ≡ 0 → (length kept.bytes ≡ most_bytes) ⊎ answers kept.bytes o
    heard_end terms until k kept o es (inl a) read sound = absurd (unread o outcome.NoStart a.2 refl read)
    heard_end terms until k kept o es (inr (inl a)) read sound = absurd (unread o outcome.NoMemory a.2 refl read)
    heard_end terms until k kept o es (inr (inr (inl (skip, nothing, e)))) read sound =
        absurd (unread o (skipped_end (is_some (first_proved skip.before))) e (skip_unread (is_some (first_proved skip.before))) read)
    heard_end terms until k kept o es (inr (inr (inr (settle, late, reaped, may)))) read sound =
        elim (calls_heard kept.stray (nat_lt 0 kept.pipe_faults) kept.short (length kept.bytes == most_bytes) (answers kept.bytes) o read (ap (nat_lt 0) sound)
        (called late (is_some (first_proved settle.before)) kept o read may)) [
          | inl long ↦ inl (eqb-true (length kept.bytes) most_bytes long)
          | inr a ↦ inr a
        ]

    module _ (law : (bytes : List ℕ) (o : Outcome P) → answers bytes o → IsTrue (is_answer o)) where
      -- behind no win, in time, with the slot's own sound pipe
      own_read : (won : Bool) (kept : Kept) (o : Outcome P) → won ≡ false → (verdict_of o ≡ verdict.NoMemory → ⊥) → (verdict_of o ≡ verdict.Lost → ⊥) →
          MayEnd answers false won kept o → is_read (verdict_of o) ≡ true
      own_read won kept outcome.NoMemory none full unlost may = absurd (full refl)
      own_read won kept outcome.Cancelled none full unlost may = absurd (false≢true (sym none ∙ may))
      own_read won kept (outcome.Proved p) none full unlost may = refl
      own_read won kept outcome.NoStart none full unlost may =
          absurd (calls_no_start kept.stray (nat_lt 0 kept.pipe_faults) kept.short (length kept.bytes == most_bytes) (answers kept.bytes) (λ a. let t = law kept.bytes outcome.NoStart a in cc) may)
      own_read won kept (outcome.Lost i) none full unlost may = absurd (unlost refl)
      own_read won kept outcome.ReadFault none full unlost may = refl
      own_read won kept outcome.TooLong none full unlost may = refl
      own_read won kept outcome.NoStatus none full unlost may = refl
      own_read won kept outcome.NoProof none full unlost may = refl
      own_read won kept (outcome.BadText at) none full unlost may = refl
      own_read won kept outcome.Saturated none full unlost may = refl
      own_read won kept outcome.Spent none full unlost may = refl
      own_read won kept outcome.TimedOut none full unlost may =
          absurd (calls_timed_out kept.stray (nat_lt 0 kept.pipe_faults) kept.short (length kept.bytes == most_bytes) (answers kept.bytes) (λ a. let t = law kept.bytes outcome.TimedOut a in cc) may)

      stray_lost : (won : Bool) (kept : Kept) (o : Outcome P) (i : ℕ) → won ≡ false → kept.stray ≡ Some i → (verdict_of o ≡ verdict.NoMemory → ⊥) → (verdict_of o ≡ verdict.Lost → ⊥) →
          MayEnd answers false won kept o → ⊥
      stray_lost won kept o i none stray full unlost may =
          let read = own_read won kept o none full unlost may in
          unlost (ap verdict_of (calls_stray kept.stray (nat_lt 0 kept.pipe_faults) kept.short (length kept.bytes == most_bytes) (answers kept.bytes) o i stray (called false won kept o read may)))

      module _ (terms : Terms) (until : Option ℕ) (es : List Event) (legal : IsLegal (length terms.orders) until es) (none : first_proved es ≡ None)
          (timely : has_expired es ≡ false) (started : unstarted es ≡ []) (sound : (i : ℕ) → IsTrue (terms.children i).sound) where
        reaped_read : (k : ℕ) (kept : Kept) (o : Outcome P) (settle : Stands (Settle k (verdict_of o)) es) (late : Bool) → has_expired settle.before ≡ false →
            IsReaped terms until k late kept settle.before → MayEnd answers late (is_some (first_proved settle.before)) kept o →
            (verdict_of o ≡ verdict.NoMemory → ⊥) → (verdict_of o ≡ verdict.Lost → ⊥) → (is_read (verdict_of o) ≡ true) × (kept.pipe_faults ≡ 0)
        reaped_read k kept o settle late early reaped may full unlost =
            let reap = reaped.0 in
            let launch = reaped.1 in
            let inside = (unexpired settle.before reap.before reap.behind (Reap k) reap.is early).0 in
            let in_time : late ≡ false = sym launch.late_is ∙ (unexpired reap.before launch.before launch.since (Launch k) launch.is inside).1 in
            let won : is_some (first_proved settle.before) ≡ false = ap is_some (unwon_before es settle.before (Settle k (verdict_of o) ∷ settle.behind) settle.is none) in
            let may_now : MayEnd answers false (is_some (first_proved settle.before)) kept o = subst (λ l. MayEnd answers l (is_some (first_proved settle.before)) kept o) in_time may in
            elim reaped.2 [
              | inl a ↦ (own_read (is_some (first_proved settle.before)) kept o won full unlost may_now, a.2.sound (sound a.0))
              | inr a ↦ absurd (stray_lost (is_some (first_proved settle.before)) kept o a.0 won (ap (λ (x : Kept). x.stray) a.1) full unlost may_now)
            ]

        -- each slot is heard that didn't want for memory and isn't lost
        pub all_heard : (k : ℕ) (kept : Kept) (o : Outcome P) → Right answers terms until k kept o es → (verdict_of o ≡ verdict.NoMemory → ⊥) → (verdict_of o ≡ verdict.Lost → ⊥) →
            (is_read (verdict_of o) ≡ true) × (kept.pipe_faults ≡ 0)
        all_heard k kept o (inl a) full unlost = absurd (all_started es a.0.before a.0.behind k a.0.is started)
        all_heard k kept o (inr (inl a)) full unlost = absurd (full (ap verdict_of a.2))
        all_heard k kept o (inr (inr (inl a))) full unlost =
            let skip = a.0 in
            let at = steps-at (length terms.orders) until skip.before skip.behind (Skip k) (subst (IsLegal (length terms.orders) until) skip.is legal) in
            let late = skipped-late (length terms.orders) until skip.before at.race at.next k at.is at.before at.step
            (unwon_before es skip.before (Skip k ∷ skip.behind) skip.is none) in
            absurd (false≢true (sym (unexpired es skip.before skip.behind (Skip k) skip.is timely).0 ∙ late))
        all_heard k kept o (inr (inr (inr a))) full unlost =
            reaped_read k kept o a.0 a.1 (unexpired es a.0.before a.0.behind (Settle k (verdict_of o)) a.0.is timely).0 a.2 a.3 full unlost
