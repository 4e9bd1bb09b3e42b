-- What the passing of the limit of time keeps of a board.
use Rattle.std.proofs.Common.{◌≡◌, ℕ, ◌+◌, ◌<◌, ◌≤◌, Bool, true, false, List, [], ◌∷◌, ◌++◌, length, map, refl, sym, ap, ◌∙◌, subst, arith, Option, Some, None, append-nil, length-append, All, zero, suc}
use Rattle.std.specs.Prelude.{slice_get, sum_by, is_some, if◌then◌else◌, ◌&&◌}
use Rattle.std.specs.List.{filter_map}
use Rattle.std.proofs.lemmas.Bool.{le-leb}
use Rattle.std.proofs.lemmas.List.Sums.{sum_by-cons}
use Rattle.std.proofs.lemmas.Option.{slice_get-map}
use Rattle.race_core.specs.declared.race.Race.{Race}
use Rattle.race_core.specs.declared.slot.SlotEnd.{SlotEnd}
use Rattle.race_core.specs.declared.slot.SlotState.{SlotState}
use Rattle.race_core.specs.declared.slot.SlotState.TheVariants.{Waiting, Running, Overdue, Reaped, ReapedLate, Settled}
use Rattle.race_core.specs.declared.outcome.Outcome.{Outcome}
use Rattle.race_core.specs.declared.event.Event.{Event}
use Rattle.race_core.specs.declared.event.Event.TheVariants.{Expire}
use Rattle.race_core.specs.Steps.{step_of, after, fresh, is_open, is_due, overdue, with_lateness}
use Rattle.race_core.specs.Histories.{id_of}
use Rattle.race_core.specs.Standings.{Standing, is_listed}
use Rattle.race_core.specs.Ran.{Ran, running, running_from}
use Rattle.race_core.proofs.Ids.{id-stays, ids-stay}
use Rattle.race_core.proofs.Moved.{was-before}
use Rattle.race_core.proofs.Stepped.{expired-some, is_open-true}
use Rattle.race_core.proofs.Grown.{Adds, ran-grows}
use Rattle.race_outside.specs.Launchers.{Ticks}
use Rattle.race_board.specs.Ends.{Terms, is_up}
use Rattle.race_board.specs.Boards.{View, up, up_of}
use Rattle.race_board.specs.Calls.{KillsAll, TicksAndKills}
use Rattle.race_board.specs.inner.Kept.{id_in, IsEnd, IsBoard, to_come, to_pass}
use Rattle.race_board.proofs.Ends.{end-push}
use Rattle.race_board.proofs.Grown.{runs-push}
use Rattle.race_board.proofs.Moving.{orders-none}
use Rattle.race_board.proofs.Settling.{ids-are}

-- where the limit has passed an unwon race becomes late
pub expire-steps : (r : Race) (u m : ℕ) → r.until ≡ Some u → is_open r ≡ true → u ≤ m → step_of r (Expire m) ≡ Some (with_lateness r)
expire-steps r u m until unwon due =
    ap (λ b. if b && is_due r.until m then Some (with_lateness r) else None) unwon
    ∙ ap (λ o. if is_due o m then Some (with_lateness r) else None) until
    ∙ ap (λ b. if b then Some (with_lateness r) else None) (le-leb u m due)

passes-in : (until : Option ℕ) (late : Bool) → is_some until ≡ true → late ≡ false → to_pass until late ≡ 1
passes-in None late some timely = cc
passes-in (Some u) true some timely = cc
passes-in (Some u) false some timely = refl

passed : (until : Option ℕ) → to_pass until true ≡ 0
passed None = refl
passed (Some u) = refl

-- there is room for the passing of the limit
pub expire-room : {P : Type 0} (answers : List ℕ → Outcome P → Type 0) (terms : Terms) (v : View P) (ids : List (Option ℕ)) (total capacity : ℕ) → IsBoard answers terms v ids total capacity → is_some v.race.until ≡ true → is_open v.race ≡ true → length v.events < capacity
expire-room answers terms v ids total capacity b limited unwon =
    omega (arith, b.room, passes-in v.race.until v.race.late limited (is_open-true v.race unwon).1)

late-sum : (f : SlotState → ℕ) (ss : List SlotState) → ((s : SlotState) → f (overdue s) ≡ f s) → sum_by f (map overdue ss) ≡ sum_by f ss
late-sum f [] same = refl
late-sum f (s ∷ ss) same =
    sum_by-cons f (overdue s) (map overdue ss) ∙ ap (λ n. n + sum_by f (map overdue ss)) (same s) ∙ ap (λ n. f s + n) (late-sum f ss same) ∙ sym (sum_by-cons f s ss)

late-up : (s : SlotState) → up (overdue s) ≡ up s
late-up Waiting = refl
late-up Running = refl
late-up Overdue = refl
late-up Reaped = refl
late-up ReapedLate = refl
late-up (Settled v) = refl

late-come : (s : SlotState) → to_come (overdue s) ≡ to_come s
late-come Waiting = refl
late-come Running = refl
late-come Overdue = refl
late-come Reaped = refl
late-come ReapedLate = refl
late-come (Settled v) = refl

late-is_up : (s : SlotState) → is_up (overdue s) ≡ is_up s
late-is_up Waiting = refl
late-is_up Running = refl
late-is_up Overdue = refl
late-is_up Reaped = refl
late-is_up ReapedLate = refl
late-is_up (Settled v) = refl

none-runs : (s : SlotState) → overdue s ≡ Running → ⊥
none-runs Waiting e = cc
none-runs Running e = cc
none-runs Overdue e = cc
none-runs Reaped e = cc
none-runs ReapedLate e = cc
none-runs (Settled v) e = cc

late-end : {P : Type 0} (answers : List ℕ → Outcome P → Type 0) (terms : Terms) (until : Option ℕ) (k : ℕ) (s : SlotState) (end : SlotEnd P) (es : List Event) → IsEnd answers terms until k s end es → IsEnd answers terms until k (overdue s) end es
late-end answers terms until k Waiting end es w = w
late-end answers terms until k Running end es w = w
late-end answers terms until k Overdue end es w = w
late-end answers terms until k Reaped end es w = w
late-end answers terms until k ReapedLate end es w = w
late-end answers terms until k (Settled v) end es w = w

one-moment : (m : ℕ) → All (λ x. x ≤ m) (m ∷ [])
one-moment m zero d within = omega arith
one-moment m (suc k) d within = absurd (omega arith)

-- the clock was read, and then the slots that ran were killed
pub ticks-and-kills : (m : ℕ) (ids : List ℕ) (before mid now : Standing) → Ticks m before mid → KillsAll ids mid now → TicksAndKills ids before now
ticks-and-kills m ids before mid now tick kill = record {
  starts = kill.starts ∙ tick.starts;
  orders = kill.orders ∙ tick.orders;
  kills = kill.kills ∙ ap (λ l. l ++ ids) tick.kills;
  waits = kill.waits ∙ tick.waits;
  faults = omega (arith, kill.faults, tick.faults);
  last = omega (arith, kill.last, tick.last, tick.later);
}

-- the limit of time passes
pub expire-keeps : {P : Type 0} (answers : List ℕ → Outcome P → Type 0) (terms : Terms) (v : View P) (next : Race) (mid now : Standing) (es : List Event) (ids : List (Option ℕ)) (total capacity room m : ℕ)
    → IsBoard answers terms v ids total capacity → is_some v.race.until ≡ true → es ≡ v.events ++ Expire m ∷ [] → step_of v.race (Expire m) ≡ Some next
    → Ticks m v.launcher mid → KillsAll (filter_map (id_in ids) (running_from 0 v.race.slots)) mid now → room ≡ capacity
    → IsBoard answers terms (record { events = es; race = next; ends = v.ends; launcher = now }) ids total room
expire-keeps {P} answers terms v next mid now es ids total capacity room m b limited events step tick kill same =
    let first : ℕ = terms.first.starts in
    let all : List Event = v.events ++ Expire m ∷ [] in
    let both = ticks-and-kills m _ v.launcher mid now tick kill in
    let h = expired-some v.race m next step in
    let unwon = is_open-true v.race h.0 in
    let until : next.until ≡ v.race.until = ap (λ (x : Race). x.until) h.2 in
    let slots : next.slots ≡ map overdue v.race.slots = ap (λ (x : Race). x.slots) h.2 in
    let late : next.late ≡ true = ap (λ (x : Race). x.late) h.2 in
    let stays : (j : ℕ) → id_of first all j ≡ id_of first v.events j = λ j. id-stays first v.events (Expire m) j refl in
    let found : (j : ℕ) (u : SlotState) → slice_get next.slots j ≡ Some u → (s : SlotState) × ((slice_get v.race.slots j ≡ Some s) × (overdue s ≡ u)) = λ j u is. was-before (slice_get v.race.slots j) u (sym (slice_get-map overdue v.race.slots j) ∙ ap (λ l. slice_get l j) (sym slots) ∙ is) in
    let last : now.last ≡ m = kill.last ∙ tick.last in
    let A : List Event → Type 0 = λ l. IsBoard answers terms (record { events = l; race = next; ends = v.ends; launcher = now }) ids total room in
    let L : Option ℕ → Type 0 = λ u. after (length terms.orders) u all ≡ Some next in
    let R : Option ℕ → Type 0 = λ u. Ran terms.first now terms.orders terms.limit u all in
    let M : ℕ → Type 0 = λ n. All (λ x. x ≤ n) (m ∷ []) in
    let adds : Adds terms.first terms.orders v.events v.race (Expire m) v.launcher now = record {
      starts = omega (arith, both.starts);
      started_with = both.orders ∙ orders-none v.launcher.orders;
      waits = both.waits ∙ sym (append-nil v.launcher.waits);
      kills = both.kills ∙ ap (λ l. v.launcher.kills ++ l) (ids-are first v.events ids (running v.race) b.known ∙ sym (ids-stay first v.events (Expire m) (running v.race) refl));
      faults = omega (arith, both.faults);
      last = both.last;
      moments = subst M (sym last) (one-moment m);
    } in
    let pass_before : to_pass v.race.until v.race.late ≡ 1 = passes-in v.race.until v.race.late limited unwon.1 in
    let pass_now : to_pass next.until next.late ≡ 0 = ap (λ l. to_pass next.until l) late ∙ passed next.until in
    subst A (sym events) (record {
      some = b.some;
      few = b.few;
      legal = subst L (sym until) (runs-push (fresh (length terms.orders) v.race.until) v.race next v.events (Expire m) b.legal step);
      ran = subst R (sym until) (ran-grows terms.first v.launcher now terms.orders terms.limit v.race.until v.events v.race next (Expire m) b.legal step b.ran adds);
      orders = b.orders;
      ends = λ j u end at held.
          (let f = found j u at in
          let U : Option ℕ → Type 0 = λ x. IsEnd answers terms x j u end all in
          let S : SlotState → Type 0 = λ x. IsEnd answers terms v.race.until j x end all in
          subst U (sym until) (subst S f.1.1 (late-end answers terms v.race.until j f.0 end all (end-push answers terms v.race.until j f.0 end v.events (Expire m) (b.ends j f.0 end f.1.0 held)))));
      each = b.each;
      known = λ j. b.known j ∙ sym (stays j);
      safe = record {
        started = λ j i own. omega (arith, both.starts, b.safe.started j i (sym (stays j) ∙ own));
        unwaited = λ j i u at up own. (let f = found j u at in ap (λ l. is_listed i l) both.waits ∙ b.safe.unwaited j i f.0 f.1.0 (sym (late-is_up f.0) ∙ ap is_up f.1.1 ∙ up) (sym (stays j) ∙ own));
        unkilled = λ j i none at own. (let f = found j Running at in absurd (none-runs f.0 f.1.1));
      };
      counted = b.counted ∙ sym (late-sum up v.race.slots late-up) ∙ sym (ap up_of slots);
      room = omega (arith, b.room, same, pass_before, pass_now, ap (sum_by to_come) slots, late-sum to_come v.race.slots late-come, length-append v.events (Expire m ∷ []));
    })

-- the clock was read
pub ticks-keeps : {P : Type 0} (answers : List ℕ → Outcome P → Type 0) (terms : Terms) (v : View P) (now : Standing) (ids : List (Option ℕ)) (total capacity m : ℕ)
    → IsBoard answers terms v ids total capacity → Ticks m v.launcher now → IsBoard answers terms (record { events = v.events; race = v.race; ends = v.ends; launcher = now }) ids total capacity
ticks-keeps answers terms v now ids total capacity m b tick = record {
  some = b.some;
  few = b.few;
  legal = b.legal;
  ran = record {
    starts = tick.starts ∙ b.ran.starts;
    started_with = tick.orders ∙ b.ran.started_with;
    waits = tick.waits ∙ b.ran.waits;
    kills = tick.kills ∙ b.ran.kills;
    faults = omega (arith, tick.faults, b.ran.faults);
    last = omega (arith, tick.last, tick.later, b.ran.last);
    moments = λ k d within. omega (arith, tick.last, tick.later, b.ran.moments k d within);
    ends = b.ran.ends;
  };
  orders = b.orders;
  ends = b.ends;
  each = b.each;
  known = b.known;
  safe = record {
    started = λ j i own. omega (arith, tick.starts, b.safe.started j i own);
    unwaited = λ j i u at up own. ap (λ l. is_listed i l) tick.waits ∙ b.safe.unwaited j i u at up own;
    unkilled = λ j i none at own. ap (λ l. is_listed i l) tick.kills ∙ b.safe.unkilled j i none at own;
  };
  counted = b.counted;
  room = b.room;
}
