-- What one more event adds to what a launcher has done.
use Rattle.std.proofs.Common.{◌≡◌, ℕ, ◌+◌, ◌-◌, ◌^◌, ◌≤◌, min, List, [], ◌∷◌, ◌++◌, length, refl, sym, ap, ◌∙◌, subst, arith, Option, Some, None, append_assoc, length-append, All}
use Rattle.std.specs.Prelude.{option_map, slice_get}
use Rattle.std.specs.List.{filter_map}
use Rattle.std.proofs.lemmas.List.Elements.{filter_map-append, All-append}
use Rattle.race_core.specs.declared.race.Race.{Race}
use Rattle.race_core.specs.declared.slot.Order.{Order}
use Rattle.race_core.specs.declared.slot.SlotState.TheVariants.{Waiting}
use Rattle.race_core.specs.declared.event.Event.{Event}
use Rattle.race_core.specs.declared.event.Event.TheVariants.{Launch, NoStart, NoRoom, Reap, Settle, Skip, Expire}
use Rattle.race_core.specs.Steps.{step_of, after, fresh}
use Rattle.race_core.specs.Histories.{launched, launched_by, moment_of, expiries}
use Rattle.race_core.specs.Standings.{Standing}
use Rattle.race_core.specs.Ran.{reaped, reaped_by, unstarted, unstarted_by, killed, killed_by, ids_of, orders_of, Ran}
use Rattle.race_core.proofs.Legal.{after-is}
use Rattle.race_core.proofs.Moved.{launch-moves}
use Rattle.race_core.proofs.Stepped.{started-some}
use Rattle.race_core.proofs.Ids.{ids-stay}
use Rattle.race_core.proofs.Kills.{killed-push, unkilled, reaped-apart}

-- what an event adds: to the starts, the orders, the waits, the kills, the faults and the moments
pub record Adds (first : Standing) (orders : List Order) (es : List Event) (r : Race) (e : Event) (now next : Standing) : Type 0 where
  pub starts : next.starts ≡ now.starts + length (filter_map launched_by (e ∷ []))
  pub started_with : next.orders ≡ option_map (λ earlier. earlier ++ orders_of orders (filter_map launched_by (e ∷ []))) now.orders
  pub waits : next.waits ≡ now.waits ++ ids_of first.starts (es ++ e ∷ []) (filter_map reaped_by (e ∷ []))
  pub kills : next.kills ≡ now.kills ++ ids_of first.starts (es ++ e ∷ []) (killed_by r e)
  pub faults : min (now.faults + length (filter_map unstarted_by (e ∷ []))) (2 ^ 64 - 1) ≤ next.faults
  pub last : now.last ≤ next.last
  pub moments : All (λ m. m ≤ next.last) (filter_map moment_of (e ∷ []))

-- the ids of what was killed and reaped before stay
ids-kept : (n : ℕ) (until : Option ℕ) (first : ℕ) (es : List Event) (r s : Race) (e : Event) → after n until es ≡ Some r → step_of r e ≡ Some s
    → (ids_of first (es ++ e ∷ []) (reaped es) ≡ ids_of first es (reaped es)) × (ids_of first (es ++ e ∷ []) (killed (fresh n until) es) ≡ ids_of first es (killed (fresh n until) es))
ids-kept n until first es r s (Launch k) is step =
    let none = (unkilled (fresh n until) r es is (started-some r k _ _ s step).1).1 in (
      reaped-apart first es es k ((after-is n until es r is).passed k Waiting (launch-moves r s k step).at),
      ap (ids_of first (es ++ Launch k ∷ [])) none ∙ sym (ap (ids_of first es) none),
    )
ids-kept n until first es r s (NoStart k) is step = (ids-stay first es (NoStart k) _ refl, ids-stay first es (NoStart k) _ refl)
ids-kept n until first es r s (NoRoom k) is step = (ids-stay first es (NoRoom k) _ refl, ids-stay first es (NoRoom k) _ refl)
ids-kept n until first es r s (Reap k) is step = (ids-stay first es (Reap k) _ refl, ids-stay first es (Reap k) _ refl)
ids-kept n until first es r s (Settle k v) is step = (ids-stay first es (Settle k v) _ refl, ids-stay first es (Settle k v) _ refl)
ids-kept n until first es r s (Skip k) is step = (ids-stay first es (Skip k) _ refl, ids-stay first es (Skip k) _ refl)
ids-kept n until first es r s (Expire m) is step = (ids-stay first es (Expire m) _ refl, ids-stay first es (Expire m) _ refl)

ids-append : (first : ℕ) (es : List Event) (js ks : List ℕ) → ids_of first es (js ++ ks) ≡ ids_of first es js ++ ids_of first es ks
ids-append first es js ks = filter_map-append _ js ks

-- a list of ids that grows with the history
ids-grow : (first : ℕ) (es all : List Event) (js ks more : List ℕ) (before now next : List ℕ) → ks ≡ js ++ more → ids_of first all js ≡ ids_of first es js → now ≡ before ++ ids_of first es js → next ≡ now ++ ids_of first all more → next ≡ before ++ ids_of first all ks
ids-grow first es all js ks more before now next grown kept was is =
    is ∙ ap (λ l. l ++ ids_of first all more) was
    ∙ ap (λ l. (before ++ l) ++ ids_of first all more) (sym kept)
    ∙ append_assoc before (ids_of first all js) (ids_of first all more)
    ∙ ap (λ l. before ++ l) (sym (ids-append first all js more))
    ∙ ap (λ l. before ++ ids_of first all l) (sym grown)

orders-grow : (before now next : Option (List Order)) (orders : List Order) (js ks more : List ℕ) → ks ≡ js ++ more → now ≡ option_map (λ earlier. earlier ++ orders_of orders js) before → next ≡ option_map (λ earlier. earlier ++ orders_of orders more) now → next ≡ option_map (λ earlier. earlier ++ orders_of orders ks) before
orders-grow None now next orders js ks more grown was is = is ∙ ap (option_map (λ earlier. earlier ++ orders_of orders more)) was
orders-grow (Some xs) now next orders js ks more grown was is =
    is ∙ ap (option_map (λ earlier. earlier ++ orders_of orders more)) was
    ∙ ap Some (append_assoc xs (orders_of orders js) (orders_of orders more)
    ∙ ap (λ l. xs ++ l) (sym (filter_map-append (slice_get orders) js more))
    ∙ ap (λ l. xs ++ orders_of orders l) (sym grown))

-- one more event
pub ran-grows : (before now next : Standing) (orders : List Order) (limit until : Option ℕ) (es : List Event) (r s : Race) (e : Event)
    → after (length orders) until es ≡ Some r → step_of r e ≡ Some s → Ran before now orders limit until es → Adds before orders es r e now next → Ran before next orders limit until (es ++ e ∷ [])
ran-grows before now next orders limit until es r s e is step ran adds =
    let kept = ids-kept (length orders) until before.starts es r s e is step in
    let launches : launched (es ++ e ∷ []) ≡ launched es ++ filter_map launched_by (e ∷ []) = filter_map-append launched_by es (e ∷ []) in
    let refusals : unstarted (es ++ e ∷ []) ≡ unstarted es ++ filter_map unstarted_by (e ∷ []) = filter_map-append unstarted_by es (e ∷ []) in
    let moments : expiries (es ++ e ∷ []) ≡ expiries es ++ filter_map moment_of (e ∷ []) = filter_map-append moment_of es (e ∷ []) in
    record {
      starts = omega (arith, adds.starts, ran.starts, ap length launches, length-append (launched es) (filter_map launched_by (e ∷ [])));
      started_with = orders-grow before.orders now.orders next.orders orders (launched es) (launched (es ++ e ∷ [])) (filter_map launched_by (e ∷ [])) launches ran.started_with adds.started_with;
      waits = ids-grow before.starts es (es ++ e ∷ []) (reaped es) (reaped (es ++ e ∷ [])) (filter_map reaped_by (e ∷ [])) before.waits now.waits next.waits (filter_map-append reaped_by es (e ∷ [])) kept.0 ran.waits adds.waits;
      kills = ids-grow before.starts es (es ++ e ∷ []) (killed (fresh (length orders) until) es) (killed (fresh (length orders) until) (es ++ e ∷ [])) (killed_by r e) before.kills now.kills next.kills (killed-push (fresh (length orders) until) r es e is) kept.1 ran.kills adds.kills;
      faults = omega (arith, adds.faults, ran.faults, ap length refusals, length-append (unstarted es) (filter_map unstarted_by (e ∷ [])));
      last = omega (arith, adds.last, ran.last);
      moments =
          (let P : List ℕ → Type 0 = λ l. All (λ m. m ≤ next.last) l in
          subst P (sym moments) (All-append (λ m. m ≤ next.last) (expiries es) (filter_map moment_of (e ∷ [])) (λ k d within. omega (arith, ran.moments k d within, adds.last)) adds.moments));
      ends = ran.ends;
    }
