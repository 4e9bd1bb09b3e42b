-- A board on which every slot waits.
use Rattle.std.proofs.Common.{◌≡◌, ℕ, ◌+◌, ◌*◌, ◌<◌, ◌≤◌, false, List, [], ◌∷◌, length, map, refl, sym, ap, ◌∙◌, subst, arith, Option, Some, None, append-nil, zero, suc}
use Rattle.std.specs.Prelude.{slice_get, replicate, option_map}
use Rattle.std.proofs.lemmas.List.Folds.{sum_by-replicate}
use Rattle.std.proofs.lemmas.Option.{slice_get-map}
use Rattle.race_core.specs.declared.race.Race.{Race}
use Rattle.race_core.specs.declared.slot.Order.{Order}
use Rattle.race_core.specs.declared.slot.SlotEnd.{SlotEnd}
use Rattle.race_core.specs.declared.slot.SlotState.{SlotState}
use Rattle.race_core.specs.declared.slot.SlotState.TheVariants.{Waiting}
use Rattle.race_core.specs.declared.outcome.Outcome.{Outcome}
use Rattle.race_core.specs.declared.event.Event.{Event}
use Rattle.race_core.specs.Steps.{fresh}
use Rattle.race_core.specs.Standings.{Standing}
use Rattle.race_core.specs.Ran.{IsUntil}
use Rattle.race_core.proofs.Slots.{length-replicate, get-replicate}
use Rattle.race_board.specs.Ends.{Terms, nothing}
use Rattle.race_board.specs.Boards.{up, unended, Reads, Begins}
use Rattle.race_board.specs.inner.Kept.{id_in, IsEnd, IsBoard, to_come, to_pass}
use Rattle.race_board.proofs.Moving.{orders-none, no-moment}

id-nowhere : (n k : ℕ) → id_in (replicate n None) k ≡ None
id-nowhere zero zero = refl
id-nowhere zero (suc k) = refl
id-nowhere (suc n) zero = refl
id-nowhere (suc n) (suc k) = id-nowhere n k

orders-of-unended : (P : Type 0) (orders : List Order) → map (λ (end : SlotEnd P). end.order) (map (unended {P = P}) orders) ≡ orders
orders-of-unended P [] = refl
orders-of-unended P (o ∷ os) = ap (λ l. o ∷ l) (orders-of-unended P os)

kept-of : {P : Type 0} (o : Option Order) (end : SlotEnd P) → option_map unended o ≡ Some end → end.kept ≡ nothing
kept-of None end e = cc
kept-of (Some order) end e =
    let is : unended order ≡ end = cc in
    ap (λ (x : SlotEnd _). x.kept) (sym is)

at-most-one : (until : Option ℕ) → to_pass until false ≤ 1
at-most-one None = omega arith
at-most-one (Some u) = omega arith

stood : (limit until : Option ℕ) (before now : Standing) → Reads limit until before now → (now.starts ≡ before.starts) × (now.orders ≡ before.orders) × (now.kills ≡ before.kills) × (now.waits ≡ before.waits) × (before.faults ≤ now.faults) × (before.last ≤ now.last) × IsUntil before.last limit until
stood None until before now r =
    (ap (λ (s : Standing). s.starts) r.1, ap (λ (s : Standing). s.orders) r.1, ap (λ (s : Standing). s.kills) r.1, ap (λ (s : Standing). s.waits) r.1, omega (arith, ap (λ (s : Standing). s.faults) r.1), omega (arith, ap (λ (s : Standing). s.last) r.1), r.0)
stood (Some l) until before now r =
    (r.1.starts, r.1.orders, r.1.kills, r.1.waits, r.1.faults, r.1.later, (now.last + l, r.0, omega (arith, r.1.later)))

times-none : (n : ℕ) → n * 0 ≡ 0
times-none n = omega arith

fresh-board : {P : Type 0} (answers : List ℕ → Outcome P → Type 0) (terms : Terms) (until : Option ℕ) (now : Standing) (capacity : ℕ)
    → 0 < length terms.orders → length terms.orders ≤ 64 → Reads terms.limit until terms.first now → 3 * length terms.orders + 1 ≤ capacity
    → IsBoard {P = P} answers terms (record { events = []; race = fresh (length terms.orders) until; ends = map unended terms.orders; launcher = now }) (replicate (length terms.orders) None) 0 capacity
fresh-board {P} answers terms until now capacity some few clock room =
    let n : ℕ = length terms.orders in
    let s = stood terms.limit until terms.first now clock in
    record {
      some = some;
      few = few;
      legal = refl;
      ran = record {
        starts = omega (arith, s.0);
        started_with = s.1 ∙ orders-none terms.first.orders;
        waits = s.3 ∙ sym (append-nil terms.first.waits);
        kills = s.2 ∙ sym (append-nil terms.first.kills);
        faults = omega (arith, s.4);
        last = s.5;
        moments = no-moment now.last;
        ends = s.6;
      };
      orders = orders-of-unended P terms.orders;
      ends = λ k u end at held.
          (let is : Waiting ≡ u = get-replicate n k Waiting u at in
          let S : SlotState → Type 0 = λ x. IsEnd answers terms until k x end [] in
          subst S is (kept-of (slice_get terms.orders k) end (sym (slice_get-map unended terms.orders k) ∙ held)));
      each = length-replicate n None;
      known = λ k. id-nowhere n k;
      safe = record { started = λ k i own. cc; unwaited = λ k i u at up own. cc; unkilled = λ k i none at own. cc };
      counted = sym (sum_by-replicate up n Waiting ∙ times-none n);
      room = omega (arith, sum_by-replicate to_come n Waiting, at-most-one until, room);
    }

-- a board of these parts
pub begins : {P : Type 0} (answers : List ℕ → Outcome P → Type 0) (terms : Terms) (n : ℕ) (r : Race) (until : Option ℕ) (es : List Event) (ends : List (SlotEnd P)) (now : Standing) (ids : List (Option ℕ)) (total capacity : ℕ)
    → n ≡ length terms.orders → 0 < n → n ≤ 64 → es ≡ [] → r ≡ fresh n None → ends ≡ map unended terms.orders → ids ≡ replicate n None → Reads terms.limit until terms.first now → total ≡ 0 → 3 * n + 1 ≤ capacity
    → IsBoard answers terms (record { events = es; race = record { slots = r.slots; winner = r.winner; until = until; late = r.late }; ends = ends; launcher = now }) ids total capacity
begins {P} answers terms n r until es ends now ids total capacity same some few events race made known clock none room =
    let is : record { slots = r.slots; winner = r.winner; until = until; late = r.late } ≡ fresh (length terms.orders) until = ap (λ (x : Race). record { slots = x.slots; winner = x.winner; until = until; late = x.late }) race ∙ ap (λ m. fresh m until) same in
    let E : List Event → Type 0 = λ x. IsBoard answers terms (record { events = x; race = record { slots = r.slots; winner = r.winner; until = until; late = r.late }; ends = ends; launcher = now }) ids total capacity in
    let R : Race → Type 0 = λ x. IsBoard answers terms (record { events = []; race = x; ends = ends; launcher = now }) ids total capacity in
    let H : List (SlotEnd P) → Type 0 = λ x. IsBoard answers terms (record { events = []; race = fresh (length terms.orders) until; ends = x; launcher = now }) ids total capacity in
    let I : List (Option ℕ) → Type 0 = λ x. IsBoard answers terms (record { events = []; race = fresh (length terms.orders) until; ends = map unended terms.orders; launcher = now }) x total capacity in
    let T : ℕ → Type 0 = λ x. IsBoard answers terms (record { events = []; race = fresh (length terms.orders) until; ends = map unended terms.orders; launcher = now }) (replicate (length terms.orders) None) x capacity in
    subst E (sym events) (subst R (sym is) (subst H (sym made) (subst I (sym (known ∙ ap (λ m. replicate m None) same)) (subst T (sym none) (fresh-board answers terms until now capacity (omega arith) (omega arith) clock (omega arith))))))

pub begun : {P : Type 0} (terms : Terms) (n : ℕ) (r : Race) (until : Option ℕ) (es : List Event) (ends : List (SlotEnd P)) (now : Standing)
    → n ≡ length terms.orders → es ≡ [] → r ≡ fresh n None → ends ≡ map unended terms.orders → Reads terms.limit until terms.first now
    → Begins terms (record { events = es; race = record { slots = r.slots; winner = r.winner; until = until; late = r.late }; ends = ends; launcher = now })
begun terms n r until es ends now same events race made clock = record {
  events = events;
  race = ap (λ (x : Race). record { slots = x.slots; winner = x.winner; until = until; late = x.late }) race ∙ ap (λ m. fresh m until) same;
  ends = made;
  clock = clock;
}
