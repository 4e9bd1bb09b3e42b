-- What is known of a race where a step was made.
use Rattle.std.proofs.Common.{◌≡◌, ℕ, Bool, true, false, Option, Some, None, refl, inl, inr, ◌⊎◌}
use Rattle.std.specs.Prelude.{if◌then◌else◌, is_none, is_some, not, ◌&&◌}
use Rattle.race_core.specs.declared.race.Race.{Race}
use Rattle.race_core.specs.declared.outcome.Verdict.{Verdict}
use Rattle.race_core.specs.declared.outcome.Verdict.TheVariants.{Cancelled, TimedOut}
use Rattle.race_core.specs.declared.slot.SlotState.{SlotState}
use Rattle.race_core.specs.declared.slot.SlotState.TheVariants.{Waiting, Running, Overdue, Reaped, ReapedLate, Settled}
use Rattle.race_core.specs.Steps.{is_open, with_slot, with_verdict, with_lateness, started, reaped, settled, may_settle, may_settle_late, skipped, expired, is_due}

if-some : {A : Type 0} (b : Bool) (x y : A) → (if b then Some x else None) ≡ Some y → (b ≡ true) × (y ≡ x)
if-some true x y e = (refl, cc)
if-some false x y e = cc

and-true : (a b : Bool) → (a && b) ≡ true → (a ≡ true) × (b ≡ true)
and-true true true e = (refl, refl)
and-true true false e = cc
and-true false b e = cc

open-is : (w : Option ℕ) (l : Bool) → (is_none w && not l) ≡ true → (w ≡ None) × (l ≡ false)
open-is None false e = (refl, refl)
open-is None true e = cc
open-is (Some k) l e = cc

-- an open race has no winner, and isn't late
pub is_open-true : (r : Race) → is_open r ≡ true → (r.winner ≡ None) × (r.late ≡ false)
is_open-true r e = open-is r.winner r.late e

pub started-some : (r : Race) (k : ℕ) (t : SlotState) (o : Option SlotState) (next : Race) → started r k t o ≡ Some next → (o ≡ Some Waiting) × (is_open r ≡ true) × (next ≡ with_slot r k t)
started-some r k t None next e = cc
started-some r k t (Some Waiting) next e =
    let h = if-some (is_open r) (with_slot r k t) next e in (refl, h.0, h.1)
started-some r k t (Some Running) next e = cc
started-some r k t (Some Overdue) next e = cc
started-some r k t (Some Reaped) next e = cc
started-some r k t (Some ReapedLate) next e = cc
started-some r k t (Some (Settled v)) next e = cc

pub reaped-some : (r : Race) (k : ℕ) (o : Option SlotState) (next : Race) → reaped r k o ≡ Some next → ((o ≡ Some Running) × (next ≡ with_slot r k Reaped)) ⊎ ((o ≡ Some Overdue) × (next ≡ with_slot r k ReapedLate))
reaped-some r k None next e = cc
reaped-some r k (Some Waiting) next e = cc
reaped-some r k (Some Running) next e = inl (refl, cc)
reaped-some r k (Some Overdue) next e = inr (refl, cc)
reaped-some r k (Some Reaped) next e = cc
reaped-some r k (Some ReapedLate) next e = cc
reaped-some r k (Some (Settled v)) next e = cc

pub settled-some : (r : Race) (k : ℕ) (v : Verdict) (o : Option SlotState) (next : Race) → settled r k v o ≡ Some next → (((o ≡ Some Reaped) × (may_settle r v ≡ true)) ⊎ ((o ≡ Some ReapedLate) × (may_settle_late r v ≡ true))) × (next ≡ with_verdict r k v)
settled-some r k v None next e = cc
settled-some r k v (Some Waiting) next e = cc
settled-some r k v (Some Running) next e = cc
settled-some r k v (Some Overdue) next e = cc
settled-some r k v (Some Reaped) next e =
    let h = if-some (may_settle r v) (with_verdict r k v) next e in (inl (refl, h.0), h.1)
settled-some r k v (Some ReapedLate) next e =
    let h = if-some (may_settle_late r v) (with_verdict r k v) next e in (inr (refl, h.0), h.1)
settled-some r k v (Some (Settled w)) next e = cc

ends : {A : Type 0} (a b : Bool) (x y z : A) → (if a then Some x else if b then Some y else None) ≡ Some z → ((a ≡ true) × (z ≡ x)) ⊎ ((b ≡ true) × (z ≡ y))
ends true b x y z e = inl (refl, cc)
ends false true x y z e = inr (refl, cc)
ends false false x y z e = cc

pub skipped-some : (r : Race) (k : ℕ) (o : Option SlotState) (next : Race) → skipped r k o ≡ Some next → (o ≡ Some Waiting) × (((is_some r.winner ≡ true) × (next ≡ with_slot r k (Settled Cancelled))) ⊎ ((r.late ≡ true) × (next ≡ with_slot r k (Settled TimedOut))))
skipped-some r k None next e = cc
skipped-some r k (Some Waiting) next e =
    (refl, ends (is_some r.winner) r.late (with_slot r k (Settled Cancelled)) (with_slot r k (Settled TimedOut)) next e)
skipped-some r k (Some Running) next e = cc
skipped-some r k (Some Overdue) next e = cc
skipped-some r k (Some Reaped) next e = cc
skipped-some r k (Some ReapedLate) next e = cc
skipped-some r k (Some (Settled v)) next e = cc

pub expired-some : (r : Race) (m : ℕ) (next : Race) → expired r m ≡ Some next → (is_open r ≡ true) × (is_due r.until m ≡ true) × (next ≡ with_lateness r)
expired-some r m next e =
    let h = if-some (is_open r && is_due r.until m) (with_lateness r) next e in
    let both = and-true (is_open r) (is_due r.until m) h.0 in
    (both.0, both.1, h.1)
