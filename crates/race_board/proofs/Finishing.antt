-- What a board on which every slot is settled hands out.
use Rattle.std.proofs.Common.{◌≡◌, ℕ, true, List, [], ◌∷◌, length, map, refl, sym, ap, ◌∙◌, subst, arith, Option, Some, zero, suc, All}
use Rattle.std.specs.Prelude.{slice_get}
use Rattle.std.proofs.lemmas.Option.{slice_get_within}
use Rattle.race_core.specs.declared.slot.SlotEnd.{SlotEnd}
use Rattle.race_core.specs.declared.slot.SlotState.{SlotState}
use Rattle.race_core.specs.declared.slot.SlotState.TheVariants.{Waiting, Running, Overdue, Reaped, ReapedLate, Settled}
use Rattle.race_core.specs.declared.outcome.Verdict.{Verdict}
use Rattle.race_core.specs.declared.outcome.Outcome.{Outcome}
use Rattle.race_core.specs.declared.event.Event.{Event}
use Rattle.race_core.specs.Verdicts.{verdict_of}
use Rattle.race_core.proofs.Slots.{get-within}
use Rattle.race_board.specs.Ends.{Terms, Right, AreRight}
use Rattle.race_board.specs.Boards.{View, is_settled}
use Rattle.race_board.specs.inner.Kept.{IsEnd, IsBoard}
use Rattle.race_board.proofs.Moving.{ends-length}

all-at : {A : Type 0} (P : A → Type 0) (xs : List A) (k : ℕ) (x : A) → All P xs → slice_get xs k ≡ Some x → P x
all-at P [] zero x all e = cc
all-at P [] (suc k) x all e = cc
all-at P (y ∷ xs) zero x all e =
    let same : y ≡ x = cc in
    subst P same (all zero y (omega arith))
all-at P (y ∷ xs) (suc k) x all e = all-at P xs k x (λ j d within. all (suc j) d (omega (arith, within))) e

settled-is : (s : SlotState) → is_settled s ≡ true → (v : Verdict) × (s ≡ Settled v)
settled-is Waiting h = cc
settled-is Running h = cc
settled-is Overdue h = cc
settled-is Reaped h = cc
settled-is ReapedLate h = cc
settled-is (Settled v) h = (v, refl)

map-is : {A B : Type 0} (f : A → B) (xs : List A) (ys : List B) → length xs ≡ length ys → ((k : ℕ) (x : A) (y : B) → slice_get xs k ≡ Some x → slice_get ys k ≡ Some y → f x ≡ y) → map f xs ≡ ys
map-is f [] [] same each = refl
map-is f [] (y ∷ ys) same each = absurd (omega arith)
map-is f (x ∷ xs) [] same each = absurd (omega arith)
map-is f (x ∷ xs) (y ∷ ys) same each =
    ap (λ z. z ∷ map f xs) (each zero x y refl refl) ∙ ap (λ l. y ∷ l) (map-is f xs ys (omega arith) (λ k a b p q. each (suc k) a b p q))

end-settled : {P : Type 0} (answers : List ℕ → Outcome P → Type 0) (terms : Terms) (v : View P) (ids : List (Option ℕ)) (total capacity k : ℕ) (s : SlotState) (end : SlotEnd P) → IsBoard answers terms v ids total capacity → All (λ s. is_settled s ≡ true) v.race.slots → slice_get v.race.slots k ≡ Some s → slice_get v.ends k ≡ Some end
    → (Settled (verdict_of end.outcome) ≡ s) × Right answers terms v.race.until k end.kept end.outcome v.events
end-settled answers terms v ids total capacity k s end b all at held =
    let d = settled-is s (all-at (λ s. is_settled s ≡ true) v.race.slots k s all at) in
    let S : SlotState → Type 0 = λ x. IsEnd answers terms v.race.until k x end v.events in
    let is = subst S d.1 (b.ends k s end at held) in
    (ap Settled (sym is.0) ∙ sym d.1, is.1)

pub verdicts-are : {P : Type 0} (answers : List ℕ → Outcome P → Type 0) (terms : Terms) (v : View P) (ids : List (Option ℕ)) (total capacity : ℕ) → IsBoard answers terms v ids total capacity → All (λ s. is_settled s ≡ true) v.race.slots → map (λ (end : SlotEnd P). Settled (verdict_of end.outcome)) v.ends ≡ v.race.slots
verdicts-are answers terms v ids total capacity b all =
    map-is (λ (end : SlotEnd _). Settled (verdict_of end.outcome)) v.ends v.race.slots (ends-length answers terms v ids total capacity b) (λ k end s held at. (end-settled answers terms v ids total capacity k s end b all at held).0)

pub ends-right : {P : Type 0} (answers : List ℕ → Outcome P → Type 0) (terms : Terms) (v : View P) (ids : List (Option ℕ)) (total capacity : ℕ) → IsBoard answers terms v ids total capacity → All (λ s. is_settled s ≡ true) v.race.slots → AreRight answers terms v.race.until v.ends v.events
ends-right answers terms v ids total capacity b all =
    λ k end held. (let s = get-within v.race.slots k (omega (arith, slice_get_within v.ends k end held, ends-length answers terms v ids total capacity b)) in
    (end-settled answers terms v ids total capacity k s.0 end b all s.1 held).1)

pub hands-verdicts : {P : Type 0} (answers : List ℕ → Outcome P → Type 0) (terms : Terms) (v w : View P) (ends : List (SlotEnd P)) (ids : List (Option ℕ)) (total capacity : ℕ) → IsBoard answers terms v ids total capacity → v ≡ w → ends ≡ v.ends → All (λ s. is_settled s ≡ true) w.race.slots → map (λ (end : SlotEnd P). Settled (verdict_of end.outcome)) ends ≡ w.race.slots
hands-verdicts answers terms v w ends ids total capacity b same is all =
    let A : View _ → Type 0 = λ x. All (λ s. is_settled s ≡ true) x.race.slots in
    ap (map (λ (end : SlotEnd _). Settled (verdict_of end.outcome))) is ∙ verdicts-are answers terms v ids total capacity b (subst A (sym same) all) ∙ ap (λ (x : View _). x.race.slots) same

pub hands-right : {P : Type 0} (answers : List ℕ → Outcome P → Type 0) (terms : Terms) (v w : View P) (ends : List (SlotEnd P)) (es : List Event) (ids : List (Option ℕ)) (total capacity : ℕ) → IsBoard answers terms v ids total capacity → v ≡ w → ends ≡ v.ends → es ≡ v.events → All (λ s. is_settled s ≡ true) w.race.slots → AreRight answers terms w.race.until ends es
hands-right {P} answers terms v w ends es ids total capacity b same is events all =
    let A : View P → Type 0 = λ x. All (λ s. is_settled s ≡ true) x.race.slots in
    let U : View P → Type 0 = λ x. AreRight answers terms x.race.until ends es in
    let H : List (SlotEnd P) → Type 0 = λ l. AreRight answers terms v.race.until l es in
    let E : List Event → Type 0 = λ l. AreRight answers terms v.race.until v.ends l in
    subst U same (subst H (sym is) (subst E (sym events) (ends-right answers terms v ids total capacity b (subst A (sym same) all))))
