-- What each event does to the slots.
use Rattle.std.proofs.Common.{◌≡◌, ◌≢◌, ◌∙◌, ◌⊎◌, ℕ, ◌+◌, ◌<◌, Bool, true, false, List, [], ◌∷◌, length, refl, sym, ap, inl, inr, arith, Option, Some, None}
use Rattle.std.specs.Bool.{OnTrue, OnFalse}
use Rattle.std.specs.Prelude.{slice_get, slice_set, map, if◌then◌else◌, ◌&&◌}
use Rattle.std.proofs.lemmas.List.Sums.{sum_by-cons}
use Rattle.std.proofs.lemmas.List.{set-set}
use Rattle.std.proofs.Math.ListN.{length-set}
use Rattle.race_core.proofs.Slots.{get-set-same, get-set-other, sum-set}
use Rattle.race_core.specs.declared.race.Race.{Race}
use Rattle.race_core.specs.declared.event.Event.TheVariants as event
use Rattle.race_core.specs.declared.outcome.Verdict.TheVariants as verdict
use Rattle.race_core.specs.declared.outcome.Outcome.TheVariants as outcome
use Rattle.race_core.specs.declared.slot.SlotState.{SlotState}
use Rattle.race_core.specs.declared.slot.SlotState.TheVariants.{Waiting, Running, Overdue, Reaped, ReapedLate, Settled}
use Rattle.race_core.specs.Steps.{step_of, started as starts, reaped, overdue, with_slot, with_lateness, is_open, is_due}
use Rattle.race_board.specs.Boards.{View, up, up_of}
use Rattle.race_board.specs.Calls.{Enters, launch_event, ends_after_launch, started}
use Rattle.race_board.specs.declared.launched.Launched.{Launched}
use Rattle.race_board.specs.declared.launched.Launched.TheVariants.{Up, NoStart, NoRoom}
use Rattle.race_run.specs.Losses.{AreUnlost}
use Rattle.race_run.proofs.Losing.{outcome-unlost}
use Rattle.race_run.specs.inner.Sweeping.{IsSettledAt, SettlesOne}

chosen : (b : Bool) (r q : Race) → (if b then Some r else None) ≡ Some q → r ≡ q
chosen true r q e = cc
chosen false r q e = cc

starts-slots : (r q : Race) (k : ℕ) (s : SlotState) (state : Option SlotState) → starts r k s state ≡ Some q → q.slots ≡ slice_set r.slots k s
starts-slots r q k s (Some Waiting) e = sym (ap (λ (x : Race). x.slots) (chosen (is_open r) (with_slot r k s) q e))
starts-slots r q k s (Some Running) e = cc
starts-slots r q k s (Some Overdue) e = cc
starts-slots r q k s (Some Reaped) e = cc
starts-slots r q k s (Some ReapedLate) e = cc
starts-slots r q k s (Some (Settled v)) e = cc
starts-slots r q k s None e = cc

-- a launch makes a slot run
pub launch-slots : (r q : Race) (k : ℕ) → step_of r (event.Launch k) ≡ Some q → q.slots ≡ slice_set r.slots k Running
launch-slots r q k e = starts-slots r q k Running (slice_get r.slots k) e

pub no_start-slots : (r q : Race) (k : ℕ) → step_of r (event.NoStart k) ≡ Some q → SettlesOne k r.slots q.slots
no_start-slots r q k e = (verdict.NoStart, starts-slots r q k (Settled verdict.NoStart) (slice_get r.slots k) e)

pub no_room-slots : (r q : Race) (k : ℕ) → step_of r (event.NoRoom k) ≡ Some q → SettlesOne k r.slots q.slots
no_room-slots r q k e = (verdict.NoMemory, starts-slots r q k (Settled verdict.NoMemory) (slice_get r.slots k) e)

reaped-slots : (r q : Race) (k : ℕ) (state : Option SlotState) → reaped r k state ≡ Some q → (s : SlotState) × (q.slots ≡ slice_set r.slots k s)
reaped-slots r q k (Some Running) e = (Reaped, let p : with_slot r k Reaped ≡ q = cc in sym (ap (λ (x : Race). x.slots) p))
reaped-slots r q k (Some Overdue) e = (ReapedLate, let p : with_slot r k ReapedLate ≡ q = cc in sym (ap (λ (x : Race). x.slots) p))
reaped-slots r q k (Some Waiting) e = cc
reaped-slots r q k (Some Reaped) e = cc
reaped-slots r q k (Some ReapedLate) e = cc
reaped-slots r q k (Some (Settled v)) e = cc
reaped-slots r q k None e = cc

-- a reap changes its slot
pub reap-slots : (r q : Race) (k : ℕ) → step_of r (event.Reap k) ≡ Some q → (s : SlotState) × (q.slots ≡ slice_set r.slots k s)
reap-slots r q k e = reaped-slots r q k (slice_get r.slots k) e

-- the limit of time makes overdue what runs
pub expire-slots : (r q : Race) (m : ℕ) → step_of r (event.Expire m) ≡ Some q → q.slots ≡ map overdue r.slots
expire-slots r q m e = sym (ap (λ (x : Race). x.slots) (chosen (is_open r && is_due r.until m) (with_lateness r) q e))

-- where no slot has a child that wasn't waited for, this one has none
pub up-none : (slots : List SlotState) (k : ℕ) (s : SlotState) → up_of slots ≡ 0 → slice_get slots k ≡ Some s → up s ≡ 0
up-none slots k s none at = omega (arith, sum-set up slots k s Waiting at)

overdue-one : (s : SlotState) → up s ≡ 0 → overdue s ≡ s
overdue-one Waiting e = refl
overdue-one Running e = absurd (omega arith)
overdue-one Overdue e = refl
overdue-one Reaped e = refl
overdue-one ReapedLate e = refl
overdue-one (Settled v) e = refl

-- then the limit of time changes no slot
pub overdue-none : (slots : List SlotState) → up_of slots ≡ 0 → map overdue slots ≡ slots
overdue-none [] none = refl
overdue-none (s ∷ slots) none =
    let here : up s ≡ 0 = omega (arith, sum_by-cons up s slots) in
    let rest : up_of slots ≡ 0 = omega (arith, sum_by-cons up s slots) in
    ap (λ t. t ∷ map overdue slots) (overdue-one s here) ∙ ap (λ ts. s ∷ ts) (overdue-none slots rest)

-- a slot changes and is settled then
pub settles-behind : (k : ℕ) (before between now : List SlotState) (s : SlotState) → between ≡ slice_set before k s → SettlesOne k between now → SettlesOne k before now
settles-behind k before between now s e (v, f) = (v, f ∙ ap (λ slots. slice_set slots k (Settled v)) e ∙ set-set before k s (Settled v))

-- what a slot that is settled leaves
pub settled-there : (k : ℕ) (before now : List SlotState) → k < length before → SettlesOne k before now → IsSettledAt (slice_get now k)
settled-there k before now within (v, e) = rw (e, get-set-same before k (Settled v) within) tt

pub settled-others : (k j : ℕ) (before now : List SlotState) → SettlesOne k before now → j ≢ k → slice_get now j ≡ slice_get before j
settled-others k j before now (v, e) apart = ap (λ slots. slice_get slots j) e ∙ get-set-other before k j (Settled v) apart

pub settled-length : (k : ℕ) (before now : List SlotState) → SettlesOne k before now → length now ≡ length before
settled-length k before now (v, e) = ap length e ∙ simp length-set

pub settled-none : (k : ℕ) (before now : List SlotState) (s : SlotState) → slice_get before k ≡ Some s → up_of before ≡ 0 → SettlesOne k before now → up_of now ≡ 0
settled-none k before now s at none (v, e) =
    let gone : up_of (slice_set before k (Settled v)) + up s ≡ up_of before + up (Settled v) = sum-set up before k s (Settled v) at in
    ap up_of e ∙ omega arith

-- a look at the clock changes no slot where none runs
pub passed-slots : {P : Type 0} (before now : View P) (b : Bool) (m : ℕ) → up_of before.race.slots ≡ 0
    → OnTrue b (Enters before now (event.Expire m)) → OnFalse b (now.race ≡ before.race) → now.race.slots ≡ before.race.slots
passed-slots before now true m none e f = expire-slots before.race now.race m e.step ∙ overdue-none before.race.slots none
passed-slots before now false m none e f = ap (λ (r : Race). r.slots) f

-- a slot that runs has a child that wasn't waited for
pub up-one : (s : SlotState) → (s ≡ Running) ⊎ (s ≡ Overdue) → up s ≡ 0 → ⊥
up-one s is none = elim is [ inl p ↦ absurd (omega (arith, ap up p)) | inr p ↦ absurd (omega (arith, ap up p)) ]

-- what a launch leaves that started nothing
pub record Unstarted {P : Type 0} (k : ℕ) (before now : View P) : Type 0 where
  pub slots : SettlesOne k before.race.slots now.race.slots
  pub unlost : AreUnlost before.ends → AreUnlost now.ends

pub unstarted : {P Q : Type 0} (k : ℕ) (before now : View P) (launched : Launched Q) → (launched ≡ NoStart) ⊎ (launched ≡ NoRoom)
    → Enters before now (launch_event k launched) → now.ends ≡ ends_after_launch k launched before.ends → Unstarted k before now
unstarted k before now (Up p) is e f = elim is [ inl q ↦ absurd (cc) | inr q ↦ absurd (cc) ]
unstarted k before now NoStart is e f = record {
  slots = no_start-slots before.race now.race k e.step;
  unlost = λ a. rw f (outcome-unlost before.ends k outcome.NoStart a);
}
unstarted k before now NoRoom is e f = record {
  slots = no_room-slots before.race now.race k e.step;
  unlost = λ a. rw f (outcome-unlost before.ends k outcome.NoMemory a);
}

pub unstarted-none : {Q : Type 0} (launched : Launched Q) → (launched ≡ NoStart) ⊎ (launched ≡ NoRoom) → started launched ≡ 0
unstarted-none (Up p) is = elim is [ inl q ↦ absurd (cc) | inr q ↦ absurd (cc) ]
unstarted-none NoStart is = refl
unstarted-none NoRoom is = refl
