-- What a board's fields say, where contracts speak of its value.
use Rattle.std.proofs.Common.{◌≡◌, ℕ, ◌<◌, ◌≤◌, true, false, List, length, refl, subst, sym, ap, ◌∙◌, arith, Option, Some, None, inl, inr, Bool, [], ◌∷◌, ◌++◌, ◌+◌, eq-eqb, cond}
use Rattle.std.specs.Prelude.{slice_get, is_some, IsSome, ◌==◌}
use Rattle.std.specs.List.{filter_map}
use Rattle.std.proofs.lemmas.Option.{slice_get_within}
use Rattle.race_core.specs.declared.race.Race.{Race}
use Rattle.race_core.specs.declared.slot.SlotState.{SlotState}
use Rattle.race_core.specs.declared.slot.SlotState.TheVariants.{Waiting, Running, Overdue, Reaped, ReapedLate, Settled}
use Rattle.race_core.specs.declared.outcome.Outcome.{Outcome}
use Rattle.race_core.specs.declared.event.Event.{Event}
use Rattle.race_core.specs.declared.event.Event.TheVariants.{Launch}
use Rattle.race_core.specs.declared.slot.Order.{Order}
use Rattle.race_core.specs.Steps.{step_of}
use Rattle.race_core.proofs.Slots.{sum-set}
use Rattle.race_core.proofs.Ids.{place}
use Rattle.race_core.proofs.Timed.{IsTimed, timed-is}
use Rattle.race_outside.specs.Launchers.{Starts, Ticks, Waits}
use Rattle.race_board.specs.declared.launched.Launched.TheVariants.{Up}
use Rattle.std.proofs.lemmas.List.Elements.{filter_map-append}
use Rattle.std.proofs.lemmas.Bool.Decides.{eqb_tells}
use Rattle.race_core.specs.Histories.{id_of, launched, launched_by, WasLaunched}
use Rattle.race_core.specs.Standings.{Standing, is_listed}
use Rattle.race_core.specs.Ran.{ids_of, running}
use Rattle.race_board.specs.Ends.{Terms, is_up, IsOfRace, IsFree, Keeps, only_stray}
use Rattle.race_board.specs.Boards.{View, up, up_of}
use Rattle.race_board.specs.Calls.{IsUp, MaySettle, KillsAll, TicksAndKills, Enters, Launches}
use Rattle.race_board.specs.inner.Kept.{id_in, IsBoard, to_come, AreKillable}
use Rattle.race_board.proofs.Moving.{history-is, ends-length, room-left}
use Rattle.race_board.proofs.Settling.{one-id, ids-are}
use Rattle.race_board.proofs.Expiring.{ticks-and-kills}

pub seen-slot : {P : Type 0} (v w : View P) (k : ℕ) (o : Option SlotState) → v ≡ w → slice_get w.race.slots k ≡ o → slice_get v.race.slots k ≡ o
seen-slot v w k o same at = ap (λ (x : View _). slice_get x.race.slots k) same ∙ at

pub seen-up : {P : Type 0} (v w : View P) (k : ℕ) → v ≡ w → IsUp (slice_get w.race.slots k) → IsUp (slice_get v.race.slots k)
seen-up v w k same h =
    let U : Option SlotState → Type 0 = λ o. IsUp o in
    subst U (sym (ap (λ (x : View _). slice_get x.race.slots k) same)) h

pub seen-id : {P : Type 0} (v w : View P) (first k : ℕ) (o : Option ℕ) → v ≡ w → id_of first w.events k ≡ o → id_of first v.events k ≡ o
seen-id v w first k o same own = ap (λ (x : View _). id_of first x.events k) same ∙ own

pub seen-ready : {P : Type 0} (answers : List ℕ → Outcome P → Type 0) (v w : View P) (k : ℕ) (o : Outcome P) → v ≡ w → MaySettle answers (is_some w.race.winner) (slice_get w.race.slots k) (slice_get w.ends k) o → MaySettle answers (is_some v.race.winner) (slice_get v.race.slots k) (slice_get v.ends k) o
seen-ready answers v w k o same h =
    let M : View _ → Type 0 = λ x. MaySettle answers (is_some x.race.winner) (slice_get x.race.slots k) (slice_get x.ends k) o in
    subst M (sym same) h

-- a slot that is up has a state
pub up-at : (o : Option SlotState) → IsUp o → (s : SlotState) × (o ≡ Some s) × (is_up s ≡ true)
up-at None h = absurd h
up-at (Some s) h = (s, refl, h)

up-come : (s : SlotState) → is_up s ≡ true → 1 ≤ to_come s
up-come Waiting h = cc
up-come Running h = omega arith
up-come Overdue h = omega arith
up-come Reaped h = cc
up-come ReapedLate h = cc
up-come (Settled d) h = cc

pub up-room : {P : Type 0} (answers : List ℕ → Outcome P → Type 0) (terms : Terms) (v : View P) (ids : List (Option ℕ)) (total capacity k : ℕ) → IsBoard answers terms v ids total capacity → IsUp (slice_get v.race.slots k) → length v.events < capacity
up-room answers terms v ids total capacity k b h =
    let s = up-at (slice_get v.race.slots k) h in
    room-left answers terms v ids total capacity k s.0 b s.1 (up-come s.0 s.2)

pub in-ends : {P : Type 0} (answers : List ℕ → Outcome P → Type 0) (terms : Terms) (v : View P) (ids : List (Option ℕ)) (total capacity k : ℕ) (s : SlotState) → IsBoard answers terms v ids total capacity → slice_get v.race.slots k ≡ Some s → k < length v.ends
in-ends answers terms v ids total capacity k s b at =
    omega (arith, slice_get_within v.race.slots k s at, ends-length answers terms v ids total capacity b)

pub in-ids : {P : Type 0} (answers : List ℕ → Outcome P → Type 0) (terms : Terms) (v : View P) (ids : List (Option ℕ)) (total capacity k : ℕ) (s : SlotState) → IsBoard answers terms v ids total capacity → slice_get v.race.slots k ≡ Some s → k < length ids
in-ids answers terms v ids total capacity k s b at =
    omega (arith, slice_get_within v.race.slots k s at, (history-is answers terms v ids total capacity b).slots, b.each)

pub up-unwaited : {P : Type 0} (answers : List ℕ → Outcome P → Type 0) (terms : Terms) (v : View P) (ids : List (Option ℕ)) (total capacity k i : ℕ) → IsBoard answers terms v ids total capacity → IsUp (slice_get v.race.slots k) → id_of terms.first.starts v.events k ≡ Some i → is_listed i v.launcher.waits ≡ false
up-unwaited answers terms v ids total capacity k i b h own =
    let s = up-at (slice_get v.race.slots k) h in
    b.safe.unwaited k i s.0 s.1 s.2 own

-- before a win the slots that run can be killed
pub killable : {P : Type 0} (answers : List ℕ → Outcome P → Type 0) (terms : Terms) (v : View P) (ids : List (Option ℕ)) (total capacity : ℕ) → IsBoard answers terms v ids total capacity → v.race.winner ≡ None → AreKillable v.race.slots ids v.launcher
killable answers terms v ids total capacity b none = record {
  distinct = λ j k i mine theirs. one-id terms.first.starts v.events j k i (sym (b.known j) ∙ mine) (sym (b.known k) ∙ theirs);
  started = λ k i own. b.safe.started k i (sym (b.known k) ∙ own);
  unkilled = λ k i at own. b.safe.unkilled k i none at (sym (b.known k) ∙ own);
  unwaited = λ k i at own. b.safe.unwaited k i Running at refl (sym (b.known k) ∙ own);
}

pub ids-length : {P : Type 0} (answers : List ℕ → Outcome P → Type 0) (terms : Terms) (v : View P) (ids : List (Option ℕ)) (total capacity : ℕ) → IsBoard answers terms v ids total capacity → length ids ≡ length v.race.slots
ids-length answers terms v ids total capacity b = b.each ∙ sym (history-is answers terms v ids total capacity b).slots

-- the kills of a call, by the ids of the history
pub seen-kills : {P : Type 0} (first : ℕ) (v w : View P) (ids : List (Option ℕ)) (kill : Race → List ℕ) (later : Standing) → v ≡ w → ((k : ℕ) → id_in ids k ≡ id_of first v.events k) → KillsAll (filter_map (id_in ids) (kill v.race)) v.launcher later → KillsAll (ids_of first w.events (kill w.race)) w.launcher later
seen-kills first v w ids kill later same known kills =
    let K : List ℕ → Type 0 = λ ks. KillsAll ks v.launcher later in
    let V : View _ → Type 0 = λ x. KillsAll (ids_of first x.events (kill x.race)) x.launcher later in
    subst V same (subst K (ids-are first v.events ids (kill v.race) known) kills)

pub launches-up : {P Q : Type 0} (orders : List Order) (v w : View P) (k : ℕ) (later : Standing) (order : Order) (pipe : Q) → v ≡ w → slice_get orders k ≡ Some order → Starts order v.launcher later → Launches (slice_get orders k) w.launcher later (Up pipe)
launches-up orders v w k later order pipe same ordered start =
    let O : Option Order → Type 0 = λ o. Launches o w.launcher later (Up pipe) in
    let V : View _ → Type 0 = λ x. Starts order x.launcher later in
    subst O (sym ordered) (subst V same start)

-- an event that was entered
pub entered : {P : Type 0} (v w now : View P) (e d : Event) → v ≡ w → now.events ≡ v.events ++ e ∷ [] → step_of v.race e ≡ Some now.race → e ≡ d → Enters w now d
entered v w now e d same events step is =
    let V : View _ → Type 0 = λ x. Enters x now d in
    subst V same (record {
      events = events ∙ ap (λ x. v.events ++ x ∷ []) is;
      step = ap (λ x. step_of v.race x) (sym is) ∙ step;
    })

pub seen-ticks : {P : Type 0} (first m : ℕ) (v w : View P) (ids : List (Option ℕ)) (mid later : Standing) → v ≡ w → ((k : ℕ) → id_in ids k ≡ id_of first v.events k) → Ticks m v.launcher mid → KillsAll (filter_map (id_in ids) (running v.race)) mid later → TicksAndKills (ids_of first w.events (running w.race)) w.launcher later
seen-ticks first m v w ids mid later same known tick kills =
    let K : List ℕ → Type 0 = λ ks. KillsAll ks mid later in
    let V : View _ → Type 0 = λ x. TicksAndKills (ids_of first x.events (running x.race)) x.launcher later in
    subst V same (ticks-and-kills m (ids_of first v.events (running v.race)) v.launcher mid later tick (subst K (ids-are first v.events ids (running v.race) known) kills))

place-here : (n : ℕ) (js : List ℕ) (j k : ℕ) → (j == k) ≡ true → place n (j ∷ js) k ≡ Some n
place-here n js j k e = ap (λ b. cond b (Some n) (place (n + 1) js k)) e

place-there : (n : ℕ) (js : List ℕ) (j k : ℕ) → (j == k) ≡ false → place n (j ∷ js) k ≡ place (n + 1) js k
place-there n js j k e = ap (λ b. cond b (Some n) (place (n + 1) js k)) e

somewhere : (n : ℕ) (js ks : List ℕ) (k : ℕ) → IsSome (place n (js ++ k ∷ ks) k)
somewhere n [] ks k = ap is_some (place-here n ks k k (eq-eqb k k refl))
somewhere n (j ∷ js) ks k =
    elim (eqb_tells j k) [
      | inl p ↦ ap is_some (place-here n (js ++ k ∷ ks) j k p.0)
      | inr p ↦ ap is_some (place-there n (js ++ k ∷ ks) j k p.0) ∙ somewhere (n + 1) js ks k
    ]

pub launched-id : (first k : ℕ) (late : Bool) (es : List Event) → WasLaunched k late es → IsSome (id_of first es k)
launched-id first k late es w =
    ap (λ l. is_some (id_of first l k)) w.is
    ∙ ap (λ js. is_some (place first js k)) (filter_map-append launched_by w.before (Launch k ∷ w.since))
    ∙ somewhere first (launched w.before) (launched w.since) k

up-launched : (first : ℕ) (es : List Event) (r : Race) (k : ℕ) (s : SlotState) → is_up s ≡ true → slice_get r.slots k ≡ Some s → IsTimed es r → IsSome (id_of first es k)
up-launched first es r k Waiting h at t = cc
up-launched first es r k Running h at t = launched-id first k false es (t.stands k Running at)
up-launched first es r k Overdue h at t = launched-id first k true es (t.stands k Overdue at)
up-launched first es r k Reaped h at t = cc
up-launched first es r k ReapedLate h at t = cc
up-launched first es r k (Settled d) h at t = cc

-- a slot that is up has an id
pub up-id : {P : Type 0} (answers : List ℕ → Outcome P → Type 0) (terms : Terms) (v : View P) (ids : List (Option ℕ)) (total capacity k : ℕ) → IsBoard answers terms v ids total capacity → IsUp (slice_get v.race.slots k) → IsSome (id_of terms.first.starts v.events k)
up-id answers terms v ids total capacity k b h =
    let s = up-at (slice_get v.race.slots k) h in
    let timed = timed-is (length terms.orders) v.race.until v.events v.race b.legal in
    up-launched terms.first.starts v.events v.race k s.0 s.2 s.1 timed

pub stray-keeps : {P : Type 0} (answers : List ℕ → Outcome P → Type 0) (terms : Terms) (v w : View P) (ids : List (Option ℕ)) (total capacity k i j : ℕ) → IsBoard answers terms v ids total capacity → v ≡ w → i ≡ j → IsOfRace terms i → IsFree terms.first.starts w.events w.race i → Keeps terms v.race.until v.events k (only_stray j)
stray-keeps answers terms v w ids total capacity k i j b same one within free =
    let V : View _ → Type 0 = λ x. IsFree terms.first.starts x.events x.race i in
    let R : ℕ → Type 0 = λ x. IsOfRace terms x in
    let F : ℕ → Type 0 = λ x. IsFree terms.first.starts v.events v.race x in
    let here = subst F one (subst V (sym same) free) in
    inr (j, refl, subst R one within, λ r is. (let both : Some v.race ≡ Some r = sym b.legal ∙ is in let that : v.race ≡ r = cc in let Q : Race → Type 0 = λ x. IsFree terms.first.starts v.events x j in subst Q that here))

pub seen-waits : {P : Type 0} (first : ℕ) (v w : View P) (k i : ℕ) (later : Standing) → v ≡ w → id_of first v.events k ≡ Some i → Waits i v.launcher later → (id : ℕ) → id_of first w.events k ≡ Some id → Waits id w.launcher later
seen-waits first v w k i later same own wait = λ id theirs. (let both : Some i ≡ Some id = sym own ∙ ap (λ (x : View _). id_of first x.events k) same ∙ theirs in
    let that : i ≡ id = cc in
    let W : ℕ → Type 0 = λ x. Waits x w.launcher later in
    let V : View _ → Type 0 = λ x. Waits i x.launcher later in
    subst W that (subst V same wait))

one-up : (s : SlotState) → is_up s ≡ true → up s ≡ 1
one-up Waiting h = cc
one-up Running h = refl
one-up Overdue h = refl
one-up Reaped h = cc
one-up ReapedLate h = cc
one-up (Settled d) h = cc

-- a slot that is up counts
pub up-counts : (slots : List SlotState) (k : ℕ) → IsUp (slice_get slots k) → 0 < up_of slots
up-counts slots k h =
    let s = up-at (slice_get slots k) h in
    omega (arith, sum-set up slots k s.0 Waiting s.1, one-up s.0 s.2)
