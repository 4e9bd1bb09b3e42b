-- The whole way of a slot, and its beginnings.
use Rattle.std.proofs.Common.{◌≡◌, ℕ, List, [], ◌∷◌, ◌++◌, ap, ◌∙◌, arith, inl, inr, append-nil, Option}
use Rattle.std.proofs.lemmas.Bool.Decides.{leb_tells}
use Rattle.race_core.specs.declared.race.Race.{Race}
use Rattle.race_core.specs.declared.outcome.Verdict.{Verdict}
use Rattle.race_core.specs.declared.outcome.Verdict.TheVariants as verdict
use Rattle.race_core.specs.declared.slot.SlotState.{SlotState}
use Rattle.race_core.specs.declared.slot.SlotState.TheVariants.{Waiting, Running, Overdue, Reaped, ReapedLate, Settled}
use Rattle.race_core.specs.declared.event.Event.{Event}
use Rattle.race_core.specs.declared.event.Event.TheVariants.{Reap, Settle, Skip}
use Rattle.race_core.specs.Histories.{events_of, HasPassed, IsPassage, PassesOnce}
use Rattle.race_core.proofs.Slots.{get-within}
use Rattle.race_core.proofs.Invariant.{IsAfter}

-- a settled slot has come its whole way
pub passage-of : (k : ℕ) (v : Verdict) (es : List Event) → HasPassed k (Settled v) es → IsPassage k es
passage-of k v es (inl e) = inl (v, e)
passage-of k v es (inr (inl p)) = inr (inl p.0)
passage-of k v es (inr (inr (inl p))) = inr (inr (inl p.0))
passage-of k v es (inr (inr (inr p))) = inr (inr (inr p.0))

-- what may still come of a slot
abbrev Rest : ℕ → List Event → Type 0
Rest k es = (rest : List Event) × IsPassage k (es ++ rest)

goes-on : (k : ℕ) (s : SlotState) (es : List Event) → HasPassed k s es → Rest k es
goes-on k Waiting es e = (Skip k ∷ [], inr (inr (inr (ap (λ l. l ++ Skip k ∷ []) e))))
goes-on k Running es e =
    (Reap k ∷ Settle k verdict.Spent ∷ [], inl (verdict.Spent, ap (λ l. l ++ Reap k ∷ Settle k verdict.Spent ∷ []) e))
goes-on k Overdue es e =
    (Reap k ∷ Settle k verdict.Spent ∷ [], inl (verdict.Spent, ap (λ l. l ++ Reap k ∷ Settle k verdict.Spent ∷ []) e))
goes-on k Reaped es e =
    (Settle k verdict.Spent ∷ [], inl (verdict.Spent, ap (λ l. l ++ Settle k verdict.Spent ∷ []) e))
goes-on k ReapedLate es e =
    (Settle k verdict.Spent ∷ [], inl (verdict.Spent, ap (λ l. l ++ Settle k verdict.Spent ∷ []) e))
goes-on k (Settled v) es e = ([], ended k (es ++ []) es (append-nil es) (passage-of k v es e))
  where
    ended : (k : ℕ) (l es : List Event) → l ≡ es → IsPassage k es → IsPassage k l
    ended k l es same (inl (v, e)) = inl (v, same ∙ e)
    ended k l es same (inr (inl e)) = inr (inl (same ∙ e))
    ended k l es same (inr (inr (inl e))) = inr (inr (inl (same ∙ e)))
    ended k l es same (inr (inr (inr e))) = inr (inr (inr (same ∙ e)))

-- each slot is on its way
pub begun : (n : ℕ) (until : Option ℕ) (es : List Event) (r : Race) → IsAfter n until es r → (k : ℕ) → PassesOnce es k
begun n until es r was k =
    elim (leb_tells n k) [
      | inl past ↦ goes-on k Waiting (events_of k es) (was.outside k past.1)
      | inr within ↦ (let at = get-within r.slots k (omega (arith, was.slots, within.1)) in goes-on k at.0 (events_of k es) (was.passed k at.0 at.1))
    ]
