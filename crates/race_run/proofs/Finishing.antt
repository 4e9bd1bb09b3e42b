-- What the history of a finished race tells.
use Rattle.std.proofs.Common.{◌≡◌, ◌∙◌, ℕ, ◌<◌, true, List, length, refl, sym, ap, arith, Option, Some, All}
use Rattle.std.specs.Prelude.{slice_get}
use Rattle.std.proofs.lemmas.Option.{get_or_from_slice_get}
use Rattle.race_core.proofs.Slots.{get-within}
use Rattle.race_core.proofs.Legal.{after-is}
use Rattle.race_core.proofs.Passages.{passage-of}
use Rattle.race_core.specs.declared.race.Race.{Race}
use Rattle.race_core.specs.declared.event.Event.{Event}
use Rattle.race_core.specs.declared.outcome.Verdict.{Verdict}
use Rattle.race_core.specs.declared.slot.SlotState.{SlotState}
use Rattle.race_core.specs.declared.slot.SlotState.TheVariants.{Waiting, Running, Overdue, Reaped, ReapedLate, Settled}
use Rattle.race_core.specs.Histories.{events_of, PassedOnce, first_proved}
use Rattle.race_core.specs.Steps.{after}
use Rattle.race_board.specs.Boards.{is_settled}

settled-is : (s : SlotState) → is_settled s ≡ true → (v : Verdict) × (s ≡ Settled v)
settled-is (Settled v) e = (v, refl)
settled-is Waiting e = cc
settled-is Running e = cc
settled-is Overdue e = cc
settled-is Reaped e = cc
settled-is ReapedLate e = cc

settled-at : (slots : List SlotState) (k : ℕ) → All (λ s. is_settled s ≡ true) slots → k < length slots → (v : Verdict) × (slice_get slots k ≡ Some (Settled v))
settled-at slots k all within =
    let (s, at) = get-within slots k within in
    let (v, e) = settled-is s (ap is_settled (sym (get_or_from_slice_get slots k s s at)) ∙ all k s within) in
    (v, at ∙ ap Some e)

-- where every slot is settled, each has passed its states once
pub passes : (n : ℕ) (until : Option ℕ) (es : List Event) (r : Race) → after n until es ≡ Some r → All (λ s. is_settled s ≡ true) r.slots → length r.slots ≡ n
    → (k : ℕ) → k < n → PassedOnce es k
passes n until es r made all few k within =
    let (v, at) = settled-at r.slots k all (omega arith) in
    passage-of k v (events_of k es) ((after-is n until es r made).passed k (Settled v) at)

-- the winner is the slot of the first accepted proof
pub wins : (n : ℕ) (until : Option ℕ) (es : List Event) (r : Race) → after n until es ≡ Some r → r.winner ≡ first_proved es
wins n until es r made = (after-is n until es r made).winner
