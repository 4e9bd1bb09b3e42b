-- What a launch keeps of a board.
use Rattle.std.proofs.Common.{◌≡◌, ◌≢◌, ℕ, ◌+◌, ◌-◌, ◌^◌, ◌<◌, ◌≤◌, min, true, false, List, [], ◌∷◌, ◌++◌, length, refl, sym, ap, ◌∙◌, subst, arith, Option, Some, None, inl, inr, append-nil, All}
use Rattle.std.specs.Prelude.{slice_get, slice_set, option_map, option_and_then, if◌then◌else◌}
use Rattle.std.specs.List.{cons_option}
use Rattle.std.proofs.lemmas.Bool.Decides.{eqb_tells}
use Rattle.std.proofs.lemmas.List.{length-set}
use Rattle.std.proofs.lemmas.Option.{slice_get_within}
use Rattle.race_core.specs.declared.race.Race.{Race}
use Rattle.race_core.specs.declared.slot.Order.{Order}
use Rattle.race_core.specs.declared.slot.SlotEnd.{SlotEnd}
use Rattle.race_core.specs.declared.slot.SlotState.{SlotState}
use Rattle.race_core.specs.declared.slot.SlotState.TheVariants.{Waiting, Running}
use Rattle.race_core.specs.declared.outcome.Verdict.TheVariants as verdict
use Rattle.race_core.specs.declared.outcome.Outcome.{Outcome}
use Rattle.race_core.specs.declared.outcome.Outcome.TheVariants as outcome
use Rattle.race_core.specs.declared.event.Event.{Event}
use Rattle.race_core.specs.declared.event.Event.TheVariants.{Launch, NoStart, NoRoom}
use Rattle.race_core.specs.Steps.{step_of, is_open, started, with_slot, fresh}
use Rattle.race_core.specs.Histories.{id_of, launched}
use Rattle.race_core.specs.Standings.{Standing, is_listed}
use Rattle.race_core.specs.Ran.{orders_of}
use Rattle.race_core.proofs.Slots.{get-set-same, get-set-other}
use Rattle.race_core.proofs.Ids.{id-none, id-launched, id-apart, place-within}
use Rattle.race_core.proofs.Legal.{after-is}
use Rattle.race_core.proofs.Invariant.{Moves, moved-elsewhere}
use Rattle.race_core.proofs.Moved.{launch-moves, no_start-moves, no_room-moves}
use Rattle.race_outside.specs.Launchers.{Starts, Refuses}
use Rattle.race_board.specs.Ends.{Terms, IsOfRace}
use Rattle.race_board.specs.Boards.{View}
use Rattle.race_board.specs.Calls.{changed, with_outcome}
use Rattle.race_board.specs.inner.Kept.{id_in, IsSafe, IsBoard}
use Rattle.race_board.proofs.Lists.{unlisted-above}
use Rattle.race_board.proofs.Grown.{grows, or-none-left, runs-push}
use Rattle.race_board.proofs.Moving.{history-is, no-moment, adds-other, settles}

-- a waiting slot of an open race may start, or not
pub start-is : (r : Race) (k : ℕ) (t : SlotState) → slice_get r.slots k ≡ Some Waiting → is_open r ≡ true → started r k t (slice_get r.slots k) ≡ Some (with_slot r k t)
start-is r k t at may = ap (started r k t) at ∙ ap (λ b. if b then Some (with_slot r k t) else None) may

-- the id of the slot that is launched
pub launch-id : {P : Type 0} (answers : List ℕ → Outcome P → Type 0) (terms : Terms) (v : View P) (ids : List (Option ℕ)) (total capacity k : ℕ) → IsBoard answers terms v ids total capacity → slice_get v.race.slots k ≡ Some Waiting → id_of terms.first.starts (v.events ++ Launch k ∷ []) k ≡ Some v.launcher.starts
launch-id answers terms v ids total capacity k b at =
    id-launched terms.first.starts v.events [] k (id-none terms.first.starts v.events k ((history-is answers terms v ids total capacity b).passed k Waiting at)) ∙ ap Some (sym b.ran.starts)

safe-launch : (f g : ℕ → Option ℕ) (r next : Race) (now later : Standing) (k : ℕ)
    → IsSafe f r now → Moves (Launch k) k Waiting Running r next → g k ≡ Some now.starts → ((j : ℕ) → j ≢ k → g j ≡ f j)
    → later.starts ≡ now.starts + 1 → later.kills ≡ now.kills → later.waits ≡ now.waits → All (λ i. i < now.starts) now.kills → All (λ i. i < now.starts) now.waits → IsSafe g next later
safe-launch f g r next now later k was m mine other starts kills waits killed waited =
    let new : (j i : ℕ) → j ≡ k → g j ≡ Some i → i ≡ now.starts = λ j i p own. (let both : Some i ≡ Some now.starts = sym own ∙ ap g p ∙ mine in cc) in
    let fresh : (ks : List ℕ) (j i : ℕ) → All (λ i. i < now.starts) ks → j ≡ k → g j ≡ Some i → is_listed i ks ≡ false = λ ks j i below p own. ap (λ x. is_listed x ks) (new j i p own) ∙ unlisted-above now.starts ks below in
    record {
      started = λ j i own.
          elim (eqb_tells j k) [
            | inl p ↦ omega (arith, starts, new j i p.1 own)
            | inr p ↦ omega (arith, starts, was.started j i (sym (other j p.1) ∙ own))
          ];
      unwaited = λ j i u at up own.
          ap (is_listed i) waits ∙ elim (eqb_tells j k) [
            | inl p ↦ fresh now.waits j i waited p.1 own
            | inr p ↦ was.unwaited j i u (moved-elsewhere r next k j Running u m.slots p.1 at) up (sym (other j p.1) ∙ own)
          ];
      unkilled = λ j i none at own.
          ap (is_listed i) kills ∙ elim (eqb_tells j k) [
            | inl p ↦ fresh now.kills j i killed p.1 own
            | inr p ↦ was.unkilled j i (or-none-left r.winner _ (sym m.winner ∙ none)) (moved-elsewhere r next k j Running Running m.slots p.1 at) (sym (other j p.1) ∙ own)
          ];
    }

-- a slot is launched
pub launch-keeps : {P : Type 0} (answers : List ℕ → Outcome P → Type 0) (terms : Terms) (v : View P) (next : Race) (now : Standing) (es : List Event) (ids jds : List (Option ℕ)) (total sum capacity room k id : ℕ) (order : Order)
    → IsBoard answers terms v ids total capacity → slice_get v.race.slots k ≡ Some Waiting → slice_get terms.orders k ≡ Some order → es ≡ v.events ++ Launch k ∷ [] → step_of v.race (Launch k) ≡ Some next
    → Starts order v.launcher now → All (λ i. i < v.launcher.starts) v.launcher.kills → All (λ i. i < v.launcher.starts) v.launcher.waits
    → id ≡ v.launcher.starts → jds ≡ slice_set ids k (Some id) → sum ≡ total + 1 → room ≡ capacity
    → IsBoard answers terms (record { events = es; race = next; ends = v.ends; launcher = now }) jds sum room
launch-keeps answers terms v next now es ids jds total sum capacity room k id order b at ordered events step start killed waited is put count same =
    let m = launch-moves v.race next k step in
    let was = history-is answers terms v ids total capacity b in
    let within : k < length ids = omega (arith, slice_get_within v.race.slots k Waiting at, was.slots, b.each) in
    let mine : id_of terms.first.starts (v.events ++ Launch k ∷ []) k ≡ Some v.launcher.starts = launch-id answers terms v ids total capacity k b at in
    let other : (j : ℕ) → j ≢ k → id_of terms.first.starts (v.events ++ Launch k ∷ []) j ≡ id_of terms.first.starts v.events j = λ j apart. id-apart terms.first.starts v.events j k apart in
    let found : orders_of terms.orders (k ∷ []) ≡ order ∷ [] = ap (λ o. cons_option o []) ordered in
    grows answers terms v next v.ends now es ids jds total sum capacity room (Launch k) k Waiting Running b events step m
    (record {
      starts = start.starts;
      started_with = start.orders ∙ ap (λ l. option_map (λ earlier. earlier ++ l) v.launcher.orders) (sym found);
      waits = start.waits ∙ sym (append-nil v.launcher.waits);
      kills = start.kills ∙ sym (append-nil v.launcher.kills);
      faults = omega (arith, start.faults);
      last = omega (arith, start.last);
      moments = no-moment now.last;
    })
    refl
    (λ j apart. refl)
    (λ end held. b.ends k Waiting end at held)
    (ap length put ∙ length-set ids k (Some id))
    (λ j. elim (eqb_tells j k) [
      | inl p ↦
          (let K : ℕ → Type 0 = λ x. id_in jds x ≡ id_of terms.first.starts (v.events ++ Launch k ∷ []) x in
          subst K (sym p.1) (ap (λ l. id_in l k) put ∙ ap (option_and_then (λ x. x)) (get-set-same ids k (Some id) within) ∙ ap Some is ∙ sym mine))
      | inr p ↦ ap (λ l. id_in l j) put ∙ ap (option_and_then (λ x. x)) (get-set-other ids k j (Some id) p.1) ∙ b.known j ∙ sym (other j p.1)
    ])
    (safe-launch (id_of terms.first.starts v.events) (id_of terms.first.starts (v.events ++ Launch k ∷ [])) v.race next v.launcher now k b.safe m mine other start.starts start.kills start.waits killed waited)
    (omega (arith, count)) (omega arith) same

-- a start failed
pub no_start-keeps : {P : Type 0} (answers : List ℕ → Outcome P → Type 0) (terms : Terms) (v : View P) (next : Race) (ends : List (SlotEnd P)) (now : Standing) (es : List Event) (ids : List (Option ℕ)) (total capacity room k : ℕ)
    → IsBoard answers terms v ids total capacity → slice_get v.race.slots k ≡ Some Waiting → es ≡ v.events ++ NoStart k ∷ [] → step_of v.race (NoStart k) ≡ Some next → Refuses v.launcher now
    → min (v.launcher.faults + 1) (2 ^ 64 - 1) ≤ now.faults → ends ≡ changed (with_outcome outcome.NoStart) k v.ends → room ≡ capacity
    → IsBoard answers terms (record { events = es; race = next; ends = ends; launcher = now }) ids total room
no_start-keeps answers terms v next ends now es ids total capacity room k b at events step refuse rose put same =
    settles answers terms v next ends now es ids total capacity room (NoStart k) k Waiting verdict.NoStart outcome.NoStart b events step (no_start-moves v.race next k step) refl
    (adds-other terms.first v.launcher now terms.orders v.events v.race (NoStart k) refl refl refuse.starts refuse.orders (refuse.waits ∙ sym (append-nil v.launcher.waits)) (refuse.kills ∙ sym (append-nil v.launcher.kills)) rose (omega (arith, refuse.last)))
    put refl (λ end held. inl (record { before = v.events; behind = []; is = refl }, b.ends k Waiting end at held, refl)) refuse.starts refuse.waits (λ none. refuse.kills) refl (omega arith) same

-- there was no memory for a start
pub no_room-keeps : {P : Type 0} (answers : List ℕ → Outcome P → Type 0) (terms : Terms) (v : View P) (next : Race) (ends : List (SlotEnd P)) (now : Standing) (es : List Event) (ids : List (Option ℕ)) (total capacity room k : ℕ)
    → IsBoard answers terms v ids total capacity → slice_get v.race.slots k ≡ Some Waiting → es ≡ v.events ++ NoRoom k ∷ [] → step_of v.race (NoRoom k) ≡ Some next → Refuses v.launcher now
    → ends ≡ changed (with_outcome outcome.NoMemory) k v.ends → room ≡ capacity
    → IsBoard answers terms (record { events = es; race = next; ends = ends; launcher = now }) ids total room
no_room-keeps answers terms v next ends now es ids total capacity room k b at events step refuse put same =
    settles answers terms v next ends now es ids total capacity room (NoRoom k) k Waiting verdict.NoMemory outcome.NoMemory b events step (no_room-moves v.race next k step) refl
    (adds-other terms.first v.launcher now terms.orders v.events v.race (NoRoom k) refl refl refuse.starts refuse.orders (refuse.waits ∙ sym (append-nil v.launcher.waits)) (refuse.kills ∙ sym (append-nil v.launcher.kills)) (omega (arith, refuse.faults)) (omega (arith, refuse.last)))
    put refl (λ end held. inr (inl (record { before = v.events; behind = []; is = refl }, b.ends k Waiting end at held, refl))) refuse.starts refuse.waits (λ none. refuse.kills) refl (omega arith) same

-- the id of the next launch is one of the race
pub launch-range : {P : Type 0} (answers : List ℕ → Outcome P → Type 0) (terms : Terms) (v : View P) (next : Race) (ids : List (Option ℕ)) (total capacity k : ℕ) → IsBoard answers terms v ids total capacity → slice_get v.race.slots k ≡ Some Waiting → step_of v.race (Launch k) ≡ Some next → IsOfRace terms v.launcher.starts
launch-range answers terms v next ids total capacity k b at step =
    let all : List Event = v.events ++ Launch k ∷ [] in
    let is = after-is (length terms.orders) v.race.until all next (runs-push (fresh (length terms.orders) v.race.until) v.race next v.events (Launch k) b.legal step) in
    let within = place-within terms.first.starts (launched all) k v.launcher.starts (launch-id answers terms v ids total capacity k b at) in
    (within.0, omega (arith, within.1, is.few))
