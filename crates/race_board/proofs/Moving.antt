-- What each kind of event keeps of a board.
use Rattle.std.proofs.Common.{◌≡◌, ℕ, ◌+◌, ◌-◌, ◌^◌, ◌<◌, ◌≤◌, min, List, [], ◌∷◌, ◌++◌, length, map, refl, sym, ap, ◌∙◌, subst, arith, Option, Some, None, append-nil, All}
use Rattle.std.specs.Prelude.{slice_get, option_map, IfSome}
use Rattle.std.specs.List.{filter_map}
use Rattle.std.proofs.lemmas.List.{length-map}
use Rattle.std.proofs.lemmas.Option.{slice_get-map}
use Rattle.race_core.specs.declared.race.Race.{Race}
use Rattle.race_core.specs.declared.slot.Order.{Order}
use Rattle.race_core.specs.declared.slot.SlotEnd.{SlotEnd}
use Rattle.race_core.specs.declared.slot.SlotState.{SlotState}
use Rattle.race_core.specs.declared.slot.SlotState.TheVariants.{Settled}
use Rattle.race_core.specs.declared.outcome.Verdict.{Verdict}
use Rattle.race_core.specs.declared.outcome.Verdict.TheVariants as verdict
use Rattle.race_core.specs.declared.outcome.Outcome.{Outcome}
use Rattle.race_core.specs.declared.event.Event.{Event}
use Rattle.race_core.specs.Steps.{step_of}
use Rattle.race_core.specs.Verdicts.{verdict_of}
use Rattle.race_core.specs.Histories.{id_of, launched, launched_by, moment_of}
use Rattle.race_core.specs.Standings.{Standing, is_listed}
use Rattle.race_core.specs.Ran.{reaped_by, unstarted_by, killed_by, ids_of, orders_of}
use Rattle.race_core.proofs.Slots.{sum-set}
use Rattle.race_core.proofs.Ids.{id-stays, place-within}
use Rattle.race_core.proofs.Invariant.{IsAfter, Moves}
use Rattle.race_core.proofs.Legal.{after-is}
use Rattle.race_core.proofs.Grown.{Adds}
use Rattle.race_board.specs.Ends.{Terms, IsOfRace, Right}
use Rattle.race_board.specs.Boards.{View, up}
use Rattle.race_board.specs.Calls.{changed, with_outcome}
use Rattle.race_board.specs.inner.Kept.{to_come, IsBoard}
use Rattle.race_board.proofs.Lists.{changed-same, changed-other, changed-map}
use Rattle.race_board.proofs.Grown.{grows, safe-moves}

-- what a board's history says of its race
pub history-is : {P : Type 0} (answers : List ℕ → Outcome P → Type 0) (terms : Terms) (v : View P) (ids : List (Option ℕ)) (total capacity : ℕ) → IsBoard answers terms v ids total capacity → IsAfter (length terms.orders) v.race.until v.events v.race
history-is answers terms v ids total capacity b = after-is (length terms.orders) v.race.until v.events v.race b.legal

-- an id of a board is one of its race
pub in-range : {P : Type 0} (answers : List ℕ → Outcome P → Type 0) (terms : Terms) (v : View P) (ids : List (Option ℕ)) (total capacity k i : ℕ) → IsBoard answers terms v ids total capacity → id_of terms.first.starts v.events k ≡ Some i → IsOfRace terms i
in-range answers terms v ids total capacity k i b own =
    let within = place-within terms.first.starts (launched v.events) k i own in
    (within.0, omega (arith, within.1, (history-is answers terms v ids total capacity b).few))

-- the order of a slot
pub order-at : {P : Type 0} (answers : List ℕ → Outcome P → Type 0) (terms : Terms) (v : View P) (ids : List (Option ℕ)) (total capacity k : ℕ) (end : SlotEnd P) → IsBoard answers terms v ids total capacity → slice_get v.ends k ≡ Some end → slice_get terms.orders k ≡ Some end.order
order-at answers terms v ids total capacity k end b held =
    ap (λ l. slice_get l k) (sym b.orders) ∙ slice_get-map (λ (x : SlotEnd _). x.order) v.ends k ∙ ap (option_map (λ (x : SlotEnd _). x.order)) held

pub ends-length : {P : Type 0} (answers : List ℕ → Outcome P → Type 0) (terms : Terms) (v : View P) (ids : List (Option ℕ)) (total capacity : ℕ) → IsBoard answers terms v ids total capacity → length v.ends ≡ length v.race.slots
ends-length answers terms v ids total capacity b =
    sym (length-map v.ends (λ (x : SlotEnd _). x.order)) ∙ ap length b.orders ∙ sym (history-is answers terms v ids total capacity b).slots

-- there is room for one more event of a slot that isn't settled
pub room-left : {P : Type 0} (answers : List ℕ → Outcome P → Type 0) (terms : Terms) (v : View P) (ids : List (Option ℕ)) (total capacity k : ℕ) (s : SlotState) → IsBoard answers terms v ids total capacity → slice_get v.race.slots k ≡ Some s → 1 ≤ to_come s → length v.events < capacity
room-left answers terms v ids total capacity k s b at more =
    omega (arith, b.room, sum-set to_come v.race.slots k s (Settled verdict.Proved) at)

-- nothing is added to the orders
pub orders-none : (o : Option (List Order)) → o ≡ option_map (λ earlier. earlier ++ []) o
orders-none None = refl
orders-none (Some l) = ap Some (sym (append-nil l))

pub no-moment : (m : ℕ) → All (λ x. x ≤ m) []
no-moment m k d within = absurd (omega arith)

-- an event that starts nothing
pub adds-other : (first now next : Standing) (orders : List Order) (es : List Event) (r : Race) (e : Event)
    → (filter_map launched_by (e ∷ []) ≡ []) → (filter_map moment_of (e ∷ []) ≡ []) → next.starts ≡ now.starts → next.orders ≡ now.orders
    → next.waits ≡ now.waits ++ ids_of first.starts (es ++ e ∷ []) (filter_map reaped_by (e ∷ [])) → next.kills ≡ now.kills ++ ids_of first.starts (es ++ e ∷ []) (killed_by r e)
    → min (now.faults + length (filter_map unstarted_by (e ∷ []))) (2 ^ 64 - 1) ≤ next.faults → now.last ≤ next.last → Adds first orders es r e now next
adds-other first now next orders es r e none calm starts same waits kills faults last =
    let O : List ℕ → Type 0 = λ l. next.orders ≡ option_map (λ earlier. earlier ++ orders_of orders l) now.orders in
    let M : List ℕ → Type 0 = λ l. All (λ m. m ≤ next.last) l in
    record {
      starts = omega (arith, starts, ap length none);
      started_with = subst O (sym none) (same ∙ orders-none now.orders);
      waits = waits;
      kills = kills;
      faults = faults;
      last = last;
      moments = subst M (sym calm) (no-moment next.last);
    }

-- a slot ends
pub settles : {P : Type 0} (answers : List ℕ → Outcome P → Type 0) (terms : Terms) (v : View P) (next : Race) (ends : List (SlotEnd P)) (now : Standing) (es : List Event) (ids : List (Option ℕ)) (total capacity room : ℕ) (e : Event) (k : ℕ) (s : SlotState) (d : Verdict) (o : Outcome P)
    → IsBoard answers terms v ids total capacity → es ≡ v.events ++ e ∷ [] → step_of v.race e ≡ Some next → Moves e k s (Settled d) v.race next
    → launched_by e ≡ None → Adds terms.first terms.orders v.events v.race e v.launcher now → ends ≡ changed (with_outcome o) k v.ends → d ≡ verdict_of o
    → ((end : SlotEnd P) → slice_get v.ends k ≡ Some end → Right answers terms v.race.until k end.kept o (v.events ++ e ∷ []))
    → now.starts ≡ v.launcher.starts → now.waits ≡ v.launcher.waits → (next.winner ≡ None → now.kills ≡ v.launcher.kills) → up s ≡ 0 → 1 ≤ to_come s → room ≡ capacity
    → IsBoard answers terms (record { events = es; race = next; ends = ends; launcher = now }) ids total room
settles answers terms v next ends now es ids total capacity room e k s d o b events step m none adds put kind right starts waits kills down more same =
    let stays : (j : ℕ) → id_of terms.first.starts (v.events ++ e ∷ []) j ≡ id_of terms.first.starts v.events j = λ j. id-stays terms.first.starts v.events e j none in
    grows answers terms v next ends now es ids ids total total capacity room e k s (Settled d) b events step m adds
    (ap (map (λ end. end.order)) put ∙ changed-map (λ end. end.order) (with_outcome o) k v.ends (λ x. refl))
    (λ j apart. ap (λ l. slice_get l j) put ∙ changed-other (with_outcome o) k j v.ends apart)
    (λ end held. (let was = changed-same (with_outcome o) k v.ends end (ap (λ l. slice_get l k) (sym put) ∙ held) in
    let E : SlotEnd _ → Type 0 = λ x. (d ≡ verdict_of x.outcome) × Right answers terms v.race.until k x.kept x.outcome (v.events ++ e ∷ []) in
    subst E (sym was.1.1) (kind, right was.0 was.1.0)))
    refl
    (λ j. b.known j ∙ sym (stays j))
    (safe-moves (id_of terms.first.starts v.events) (id_of terms.first.starts (v.events ++ e ∷ [])) v.race next v.launcher now e k s (Settled d) b.safe m refl stays starts (λ j i apart own un. ap (is_listed i) waits ∙ un) kills)
    (omega (arith, down)) more same

pub range-of : {P : Type 0} (answers : List ℕ → Outcome P → Type 0) (terms : Terms) (v : View P) (ids : List (Option ℕ)) (total capacity k : ℕ) (o : Option ℕ) → IsBoard answers terms v ids total capacity → o ≡ id_of terms.first.starts v.events k → IfSome o (λ i. IsOfRace terms i)
range-of answers terms v ids total capacity k None b own = tt
range-of answers terms v ids total capacity k (Some i) b own = in-range answers terms v ids total capacity k i b (sym own)
