-- Which slots keep what is their own.
use Rattle.std.proofs.Common.{◌≡◌, ℕ, List, [], ◌∷◌, length, Option, None, Some, refl, zero, suc}
use Rattle.std.specs.Prelude.{map, slice_get}
use Rattle.race_core.specs.declared.race.Race.{Race}
use Rattle.race_core.specs.declared.event.Event.{Event}
use Rattle.race_core.specs.Steps.{after}
use Rattle.race_core.specs.declared.slot.Order.{Order}
use Rattle.race_core.specs.declared.slot.Kept.{Kept}
use Rattle.race_core.specs.declared.slot.SlotEnd.{SlotEnd}
use Rattle.race_core.specs.declared.outcome.Outcome.{Outcome}
use Rattle.race_board.specs.Boards.{unended}
use Rattle.race_board.specs.Ends.{Terms, AreRight}
use Rattle.race_board.proofs.Followed.{one-slot}
use Rattle.race_board.specs.Calls.{changed, with_outcome, with_kept}
use Rattle.race_run.specs.Losses.{AreUnlost}

pub outcome-unlost : {P : Type 0} (ends : List (SlotEnd P)) (k : ℕ) (o : Outcome P) → AreUnlost ends → AreUnlost (changed (with_outcome o) k ends)
outcome-unlost [] k o a = a
outcome-unlost (end ∷ ends) zero o a = a
outcome-unlost (end ∷ ends) (suc k) o a = (a.0, outcome-unlost ends k o a.1)

pub kept-unlost : {P : Type 0} (ends : List (SlotEnd P)) (k : ℕ) (kept : Kept) → kept.stray ≡ None → AreUnlost ends → AreUnlost (changed (with_kept kept) k ends)
kept-unlost [] k kept own a = a
kept-unlost (end ∷ ends) zero kept own a = (own, a.1)
kept-unlost (end ∷ ends) (suc k) kept own a = (a.0, kept-unlost ends k kept own a.1)

-- no slot of a race that begins has lost its pipe
pub begun-unlost : (P : Type 0) (orders : List Order) → AreUnlost {P = P} (map unended orders)
begun-unlost P [] = tt
begun-unlost P (order ∷ orders) = (refl, begun-unlost P orders)

unlost-each : {P : Type 0} (ends : List (SlotEnd P)) → ((k : ℕ) (end : SlotEnd P) → slice_get ends k ≡ Some end → end.kept.stray ≡ None) → AreUnlost ends
unlost-each [] each = tt
unlost-each (end ∷ ends) each = (each 0 end refl, unlost-each ends (λ k. each (suc k)))

-- a race of one slot loses no pipe
pub one-unlost : {P : Type 0} (answers : List ℕ → Outcome P → Type 0) (terms : Terms) (until : Option ℕ) (ends : List (SlotEnd P)) (es : List Event) (r : Race)
    → length terms.orders ≡ 1 → after (length terms.orders) until es ≡ Some r → AreRight answers terms until ends es → AreUnlost ends
one-unlost answers terms until ends es r one made right =
    unlost-each ends (λ k end at. one-slot answers terms until k end.kept end.outcome es one (rw made) (right k end at))
